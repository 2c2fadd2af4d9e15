pub mod Lemmas
mod DefineLemmas
mod TextLemmas
mod FirstLemmas
mod MakeUsable
mod MakeCause
mod DropLemmas
mod TakesLemmas
mod FirstCause
mod CopyLemmas
mod MigrateLemmas
