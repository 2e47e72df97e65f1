mod NoRoots
