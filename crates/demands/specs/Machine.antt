-- Any space: the demands are stated over what a frame does to it, so that a wrong one can be shown to fail them.
use Rattle.std.specs.Prelude.{ℕ, ◌≡◌, List, length}
use Rattle.rules.specs.State.{Model, empty}
use Rattle.rules.specs.Frame.{Frame, decode}
use Rattle.rules.specs.Records.{area_after}
use Rattle.rules.specs.Words.{view}
use Rattle.rules.specs.Step.{Outcome, step}
use Rattle.rules.specs.Allowed.{Answered, Allowed}

-- a frame as it is handed in: its bytes, any at all, and those of the answers area
pub record Handed : Type 0 where
  pub frame : List ℕ
  pub area : List ℕ

abbrev pub frame_in : Handed → Frame
frame_in h = decode h.frame

-- what an answer may depend on of it: the bytes of the frame, and the length of the area
pub record Input : Type 0 where
  pub frame : List ℕ
  pub area : ℕ

abbrev pub input_of : Handed → Input
input_of h = record { frame = h.frame; area = length h.area }

-- its states, how a state is read as document 01's tables, which states are empty, and what a frame does: the state
-- after it, and what is answered
pub record Machine : Type 1 where
  pub State : Type 0
  pub view : State → Model
  pub Empty : State → Type 0
  pub Steps : State → Handed → State → Answered → Type 0

-- the space as it is built: its words, and the very relation that `space_step` ensures
abbrev pub the_space : Machine
the_space =
    record {
      State = List ℕ;
      view = view;
      Empty = λ ws. view ws ≡ empty;
      Steps = λ before h after a. Allowed before h.frame h.area after a;
    }

-- what a step function answers in an answers area
unfoldable pub answered_by : Outcome → List ℕ → Answered
answered_by o area =
    record { records = o.records; count = length o.records; number = o.number; area = area_after o.records area }

-- the space whose frames do what a function says to a model, a frame and the length of the answers area
abbrev pub Stepper : Type 0
Stepper = Model → List ℕ → ℕ → Outcome

pub record StepsBy (does : Stepper) (m : Model) (h : Handed) (n : Model) (a : Answered) : Type 0 where
  pub space : n ≡ (does m h.frame (length h.area)).model
  pub answered : a ≡ answered_by (does m h.frame (length h.area)) h.area

abbrev pub space_of : Stepper → Machine
space_of does =
    record { State = Model; view = λ m. m; Empty = λ m. m ≡ empty; Steps = StepsBy does }

-- the rules themselves
abbrev pub the_rules : Machine
the_rules = space_of step
