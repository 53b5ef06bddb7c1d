-- The rules of document 01, under its headings.

-- numbers, lists
pub mod Numbers
pub mod Lists
-- Entries, templates, time
pub mod Time
pub mod State
pub mod Places
pub mod Template
-- Who holds what
pub mod Holds
-- Frame layout, Answer records
pub mod Frame
pub mod Records
pub mod Fits
-- What each frame does
pub mod Done
pub mod Write
pub mod LookUp
pub mod Transactions
pub mod Renew
pub mod Notify
pub mod Service
pub mod Tick
pub mod Closing
-- Refused frames, a step
pub mod Refusals
pub mod Step
pub mod Sound
-- The serial run
pub mod SerialRun
pub mod Log
-- Trays, what is printed
pub mod Tray
pub mod Print
-- how the code is tied to it: its words, its requests, what it ensures
pub mod Words
pub mod Requests
pub mod Allowed
