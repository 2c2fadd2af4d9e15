mod Numbers
mod Texts
mod Parts
mod Known
mod MonthOfDay
mod Padded
mod ReadBack
mod RateGrammar
mod DenomTexts
mod MonthGrammar
mod DayGrammar
mod SerialGrammar
pub mod Lemmas
