mod FileLemmas
mod KeptLemmas
