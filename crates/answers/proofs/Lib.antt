-- Laws of the texts that the functions put
pub mod Texts
pub mod ReportTexts
