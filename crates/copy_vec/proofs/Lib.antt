-- Laws.
mod Shortened
