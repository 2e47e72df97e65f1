use Rattle.xod_lang.proofs.WellFormedLemmas.{well_formed}
use Rattle.xod_lang.proofs.read.read_script.Goals as goal

pub returns-clause-well_formed : goal.returns-clause-well_formed
returns-clause-well_formed c = well_formed c.args.bytes.now c.read_lines.result c.read_lines.ensures
