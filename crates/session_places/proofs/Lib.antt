mod Calls
mod KeyLemmas
