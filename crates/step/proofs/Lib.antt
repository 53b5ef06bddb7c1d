-- Proofs of what each frame does.
pub mod KindLaws
pub mod RenewLaws
pub mod PassedLaws
pub mod LookUpAnswers
pub mod SteppedLaws
pub mod IdleEnds
pub mod IdleStepped
pub mod BellStepped
pub mod FollowLaws
