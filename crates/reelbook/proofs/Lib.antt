-- The one lemma file of the program; the proof of each function stands in the folder of its name.
mod Progress
