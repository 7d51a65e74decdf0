mod Numbers
mod Once
mod Ends
mod Going
mod Decided
mod Bounded
