-- What is read of the log file that is used.
use Rattle.std.specs.Prelude.{◌≡◌, ℕ, Option, IfSome, IsSome}
use Rattle.std.specs.FinMap.{get}
use Rattle.std.specs.Option.{option_map}
use Rattle.xod_volume.specs.Files.{Files, bytes_of}
use Rattle.xod_log.specs.Ends.{body_of, ends_of}
use Rattle.xod_recover.specs.declared.ends.Used.{Used}

-- a log file was found with its ends and has a body, where there is one
pub record Finds (files : Files) (file : Option ℕ) (found : Option Used) : Type 0 where
  pub file_is : option_map (λ used. used.file) found ≡ file
  pub ends_are : IfSome found (λ used. used.ends ≡ bytes_of files (ends_of used.file))
  pub body_there : IfSome found (λ used. IsSome (get files (body_of used.file)))
