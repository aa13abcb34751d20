pub mod Connection
pub mod Wire
