use Rattle.xod_volume.specs.Files.{bytes_of}
use Rattle.xod_log.specs.Ends.{body_of}
use Rattle.xod_recover.proofs.Cutting.{records_of-cut}
use Rattle.xod_recover.proofs.laws.records_count_where_they_end.Goals as goal

pub returns : goal.returns
returns c files file end number = records_of-cut (λ other. bytes_of files (body_of other)) file end number
