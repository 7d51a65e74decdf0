mod Entries
mod DetailLemmas
mod ErrorLemmas
mod MomentLemmas
mod ReadLists
mod Texts
