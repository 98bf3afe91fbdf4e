mod EntryLemmas
