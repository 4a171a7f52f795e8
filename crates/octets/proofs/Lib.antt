-- Lists by position, stores
pub mod Octets
pub mod Stores
-- Numbers
pub mod DigitsAt
pub mod Few
pub mod BigEnd
pub mod Runs
-- Determinants, variable numbers, ENUMERATED
pub mod Answered
pub mod CountedRuns
pub mod Determined
pub mod Puts
-- Tags
pub mod Groups
pub mod Tagging
-- Characters
pub mod Visible
-- Presence bits
pub mod Weights
pub mod PresenceBits
pub mod OneBit
pub mod EditBits
pub mod EditTouches
pub mod Refusing
