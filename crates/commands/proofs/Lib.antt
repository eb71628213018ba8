pub mod CommandsLaws
pub mod Fitting
pub mod PrintingLaws
