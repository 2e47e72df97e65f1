-- A walk over the entity words of a query as the program keeps it.
use Rattle.xod_session.specs.declared.filling.Words.{Words}
use Rattle.xod_session.specs.Variables.{Filling}

abbrev pub filling_of : Words → Filling
filling_of words = record { next = words.next; left = words.left.now }
