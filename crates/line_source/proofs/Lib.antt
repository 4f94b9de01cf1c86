mod NextLine
mod Begun
