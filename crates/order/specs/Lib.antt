-- "An order that accounts for these" (document 02, T-12): what is handed in, and which order is found.
pub mod Export
pub mod Orders
pub mod Found
-- what the functions within the crate ensure
pub mod Reading
pub mod Plan
pub mod Search
-- what it rules out
pub mod OnlyOne
pub mod WrongOrders
