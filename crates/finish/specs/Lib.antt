-- What a frame ends with, by definitions that the contracts cite.
pub mod Does
pub mod From
pub mod Ending
pub mod Bells
