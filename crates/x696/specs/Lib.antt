-- Octets and numbers
pub mod Outcome
pub mod Digits
pub mod Fewest
pub mod Length
pub mod Variable
pub mod Tag
pub mod Bits
-- Values, and the kinds without components
pub mod Value
pub mod Integer
pub mod Enumerated
pub mod Real
pub mod String
pub mod Leaf
-- Types as trees: their values, their octets, the reader, and the walk of a value list
pub mod Types
pub mod Fits
pub mod Encode
pub mod Read
pub mod Walk
pub mod WellFormed
-- The type table
pub mod Table
pub mod TableCheck
pub mod TableFault
pub mod SoundTable
-- Paths, settings, and what each operation answers
pub mod Path
pub mod Apart
pub mod PathOrder
pub mod PresencePlace
pub mod Frame
pub mod Setting
pub mod Reply
pub mod RefusalTable
pub mod Operations
pub mod Editing
pub mod Result
pub mod Edits
pub mod Component
pub mod LongerRoad
pub mod Usable
pub mod Replying
-- Document 01's twelve cases
pub mod Computing
pub mod Cases
