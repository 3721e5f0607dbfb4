-- What a reader must believe of SCR and OCR: their slots as 01 lists them, and what is claimed.
pub mod Bare
pub mod Scr
pub mod Ocr
pub mod Claims
