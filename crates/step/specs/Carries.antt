-- What a frame's own part does, as the rules say it, and what is known of the space afterwards.
use Rattle.std.specs.Prelude.{ℕ, ◌≡◌, List, length, Result, Ok, Err}
use Rattle.rules.specs.declared.Record.{Record}
use Rattle.rules.specs.declared.Request.{Request}
use Rattle.rules.specs.declared.refusal.Refusal.{Refusal}
use Rattle.rules.specs.Allowed.{Stepped}
use Rattle.rules.specs.Done.{Carried}
use Rattle.rules.specs.Refusals.{refusal}
use Rattle.rules.specs.Requests.{frame_of, number, space_refusal, Decodes}
use Rattle.rules.specs.Sound.{Sound}
use Rattle.rules.specs.Words.{view}
use Rattle.hints.specs.declared.known.Hints.{Hints}
use Rattle.hints.specs.Hints.{Reliable}

-- a frame's own part, as the rules' `c` says it: the words become ws', and r is the frame's own record
pub record Carries (c : Carried) (ws' : List ℕ) (r : Record) : Type 0 where
  pub model : view ws' ≡ c.model
  pub own : r ≡ c.own

-- of a sound space that becomes the words ws' what the hints hs say is so
abbrev pub StaysReliable : List ℕ → List ℕ → Hints → Type 0
StaysReliable ws ws' hs = Sound (view ws) → Reliable hs (view ws')

-- nothing but what is known of the space is changed
abbrev pub Unchanged : List ℕ → List ℕ → List ℕ → List ℕ → Hints → Type 0
Unchanged ws area ws' area' hs = (ws' ≡ ws) × (area' ≡ area) × Reliable hs (view ws')

-- A request is taken up: so many records, as is allowed of every frame that asks for it; or it is refused by the rows
-- behind 5, and nothing is changed.
abbrev pub Taken : List ℕ → Request → List ℕ → Result ℕ Refusal → List ℕ → List ℕ → Hints → Type 0
Taken ws q area (Ok n) ws' area' hs =
    (bs : List ℕ) → Decodes bs (Ok q) → Stepped ws bs area ws' n area' × StaysReliable ws ws' hs
Taken ws q area (Err r) ws' area' hs =
    (number r ≡ space_refusal (view ws) (frame_of q)) × Unchanged ws area ws' area' hs

-- and a frame: it may be refused by its bytes
abbrev pub FrameTaken : List ℕ → List ℕ → List ℕ → Result ℕ Refusal → List ℕ → List ℕ → Hints → Type 0
FrameTaken ws bs area (Ok n) ws' area' hs = Stepped ws bs area ws' n area' × StaysReliable ws ws' hs
FrameTaken ws bs area (Err r) ws' area' hs =
    (refusal (view ws) bs (length area) ≡ number r) × Unchanged ws area ws' area' hs
