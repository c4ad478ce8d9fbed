mod Again
mod Clean
mod Faulty
mod Pieces
mod Rests
mod Tails
mod TextLines
mod Whole
