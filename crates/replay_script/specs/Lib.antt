pub mod Words
pub mod Digits
pub mod Made
pub mod Read
pub mod EntryFields
pub mod EntryLines
pub mod EntryReading
