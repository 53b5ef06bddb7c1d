-- What every space is that frames make (`Sound`, in the rules): the empty space is so, and each step keeps it.

-- laws of lists, of holds and of a frame's own part
pub mod AllLaws
pub mod AscendingLaws
pub mod EachLaws
pub mod HoldLaws
pub mod HolderLaws
pub mod OrderLaws
pub mod OwnPartLaws
pub mod TallyLaws
-- a step as events, what becomes of the tables, and what each event keeps
pub mod Events
pub mod Unavailable
pub mod Becomes
pub mod EventsProof
pub mod Consistent
pub mod ConsistentProof
-- and when the step is over
pub mod SoundProof
-- conflicts that last
pub mod ConflictLaws
-- and what its own part sets free
pub mod FreedLaws
