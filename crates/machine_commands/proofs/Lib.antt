pub mod PrintingLaws
pub mod RequestsLaws
