pub mod Commands
pub mod CommandRows
