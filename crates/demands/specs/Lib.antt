-- The demands on the space: open Demands first, which cites the rest by name.
pub mod Machine
pub mod History
pub mod Judged
pub mod Said
pub mod Book
pub mod Told
pub mod Registry
pub mod Demands
-- what they leave open (nothing), and what follows from them
pub mod Determined
pub mod Fixed
pub mod Answers
pub mod Consequences
pub mod WaitingList
-- what else holds, of the space and of trays; the course's examples; wrong spaces
pub mod Bounds
pub mod Trays
pub mod Frames
pub mod Course
pub mod ClockFace
pub mod RuledOut
-- the rules as they were before a request, beside the rules as they are
pub mod Tidied
pub mod Withdrawn
