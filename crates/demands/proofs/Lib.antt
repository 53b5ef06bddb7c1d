-- The theorems are in Theorems; the rest leads there. A proof is named after the spec whose statement it proves.

-- runs of the rules, and histories carried to them
pub mod Runs
pub mod ByRule
pub mod ByEvents
pub mod OldestLaws
-- bounds
pub mod Capacities
pub mod BoundsProof
pub mod BoundsRange
-- demand 1: what a frame is refused with, and that every frame is answered
pub mod JudgedProof
pub mod WordsOf
pub mod Answering
-- demand 2: what a step says, what its tables are, and what follows for look-ups
pub mod SaidProof
pub mod BookProof
pub mod ToldProof
pub mod RegistryProof
pub mod AnswersProof
-- demand 3
pub mod SerialRunOps
pub mod SerialRunAgree
pub mod SerialRunWrite
pub mod SerialRunFound
pub mod SerialRunEnd
pub mod SerialRunRenew
pub mod SerialRunProof
-- a space whose steps the rules give meets the demands
pub mod Follows
-- no other space meets them, and what follows for any that does
pub mod Twins
pub mod DeterminedProof
pub mod FixedProof
pub mod ConsequencesProof
pub mod WaitingListProof
-- trays, the course's examples, wrong spaces
pub mod TraysProof
pub mod CourseProof
pub mod ClockFaceProof
pub mod TidiedProof
pub mod WithdrawnProof
pub mod RuledOutProof
pub mod WrongTalliesProof
pub mod Theorems
