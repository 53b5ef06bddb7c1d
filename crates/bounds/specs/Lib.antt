-- "How big an area for this tray" (document 02, T-10): the two bounds, and that every run keeps within them.
pub mod Bounds
pub mod Counts
pub mod Within
pub mod WrongBounds
