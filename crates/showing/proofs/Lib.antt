pub mod Floats
pub mod SettingLaws
pub mod Flats
pub mod FlatWords
pub mod TextLaws
pub mod SettingExact
