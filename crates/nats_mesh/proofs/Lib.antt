mod Beginning
mod Hearing
mod Indexing
mod Listed
mod Moving
mod Playing
