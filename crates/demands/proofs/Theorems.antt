-- The theorems. They assume nothing.
use Rattle.demands.specs.ClockFace.{ClockFace}
use Rattle.demands.specs.Machine.{the_space, the_rules}
use Rattle.demands.specs.Demands.{Demand1, Demand2, Demand3}
use Rattle.demands.specs.Determined.{Determined, ThirdFollows}
use Rattle.demands.specs.Fixed.{Fixed}
use Rattle.demands.specs.Consequences.{Consequences, ConsequencesFollow}
use Rattle.demands.specs.WaitingList.{WaitingList, WaitingListFollows, WrongTallies}
use Rattle.demands.specs.Bounds.{Bounds}
use Rattle.demands.specs.RuledOut.{RuledOut}
use Rattle.demands.specs.Tidied.{Tidied}
use Rattle.demands.specs.Withdrawn.{Withdrawn}
use Rattle.demands.proofs.ClockFaceProof.{clock-face-holds}
use Rattle.demands.proofs.ByRule.{space-follows, rules_follow}
use Rattle.demands.proofs.Follows.{follows_1, follows_2, follows_3, follows-bounds}
use Rattle.demands.proofs.Answering.{space-begins, space-answers, rules_begin, rules_answer}
use Rattle.demands.proofs.DeterminedProof.{every_history, every_serial}
use Rattle.demands.proofs.FixedProof.{every_reply}
use Rattle.demands.proofs.ConsequencesProof.{every_consequence}
use Rattle.demands.proofs.WaitingListProof.{every_list}
use Rattle.demands.proofs.WrongTalliesProof.{each_wrong}
use Rattle.demands.proofs.TidiedProof.{the_number_is_tidied}
use Rattle.demands.proofs.WithdrawnProof.{escape_is_carried_out}
use Rattle.demands.proofs.RuledOutProof.{each-ruled_out}

-- The space that is built.
pub demand1 : Demand1 the_space
demand1 = follows_1 the_space space-follows space-begins space-answers

pub demand2 : Demand2 the_space
demand2 = follows_2 the_space space-follows

pub demand3 : Demand3 the_space
demand3 = follows_3 the_space space-follows

pub bounds : Bounds the_space
bounds = follows-bounds the_space space-follows

-- The rules.
pub rules_1 : Demand1 the_rules
rules_1 = follows_1 the_rules rules_follow rules_begin rules_answer

pub rules_2 : Demand2 the_rules
rules_2 = follows_2 the_rules rules_follow

pub rules_3 : Demand3 the_rules
rules_3 = follows_3 the_rules rules_follow

pub rules_bounds : Bounds the_rules
rules_bounds = follows-bounds the_rules rules_follow

-- Any space that meets demands 1 and 2 answers exactly as the rules do; so the third follows, and the consequences.
pub determined : Determined
determined = every_history

-- so the answer to every frame list is fixed
pub fixed : Fixed
fixed = every_reply

pub third_follows : ThirdFollows
third_follows = every_serial

pub consequences_follow : ConsequencesFollow
consequences_follow = every_consequence

pub consequences : Consequences the_space
unfolding ConsequencesFollow
consequences = consequences_follow the_space demand1 demand2

-- and the waiting list is explained by its history
pub waiting_list_follows : WaitingListFollows
waiting_list_follows = every_list

pub waiting_list : WaitingList the_space
unfolding WaitingListFollows
waiting_list = waiting_list_follows the_space demand1 demand2

-- which wrong tallies do not do
pub wrong_tallies : WrongTallies
wrong_tallies = each_wrong

-- What was shown before the number 14 was removed.
pub tidied : Tidied
tidied = the_number_is_tidied

-- What an abort out of a wait changes, and what it leaves.
pub withdrawn : Withdrawn
withdrawn = escape_is_carried_out

-- Positions on the clock face.
pub clock_face : ClockFace
clock_face = clock-face-holds

-- Wrong spaces.
pub ruled_out : RuledOut
ruled_out = each-ruled_out
