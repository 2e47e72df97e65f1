mod SortLemmas
