pub mod Replies
pub mod Kind
pub mod Orders
pub mod Judged
pub mod Checked
