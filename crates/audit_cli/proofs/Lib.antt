mod BackLemmas
mod JobLemmas
mod Numbers
mod ShortLemmas
mod TrialLemmas
mod WordLemmas
