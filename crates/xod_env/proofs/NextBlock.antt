-- A block that was built over the bodies up to the current one may come next, where its trees are the tables of some rows.
use Rattle.std.proofs.Common.{◌≡◌, ℕ, Bool, true, IsTrue, IfSome, Option, Some, None, is_some, refl, ◌∙◌, ap}
use Rattle.std.specs.Option.{option_map}
use Rattle.std.proofs.Math.Path.{fun_ext}
use Rattle.xod_base.specs.Views.{Trees}
use Rattle.xod_commit.specs.declared.block.Built.{Built}
use Rattle.xod_log.specs.declared.log.Log.{Log}
use Rattle.xod_log.specs.Standing.{next_place_of}
use Rattle.xod_overlay.specs.Marks.{TouchMap, overlaid, overlaid_trees}
use Rattle.xod_root.specs.Roots.{Roots}
use Rattle.xod_tables.specs.Reading.{rows_of}
use Rattle.xod_volume.specs.Files.{Files}
use Rattle.xod_env.specs.Blocks.{IsNextBlock, trees_with}
use Rattle.xod_env.specs.Building.{IsBlockOf}
use Rattle.xod_env.specs.Envs.{env_records, env_trees}

-- what holds of a value that is there
if_there : {A B : Type 0} (o : Option A) (x : Option B) (f : A → B) → is_some o ≡ true → IfSome o (λ a. x ≡ Some (f a)) → x ≡ option_map f o
if_there None x f some is = absurd cc
if_there (Some a) x f some is = is

mapped_there : {A B : Type 0} (o : Option A) (f : A → B) → is_some o ≡ true → is_some (option_map f o) ≡ true
mapped_there None f some = absurd cc
mapped_there (Some a) f some = refl

module _ (log : Log) (files : Files) (roots : Roots) (commit : ℕ) (touches : ℕ → TouchMap) (built : Built) (tells : Bool) (told : IsTrue tells)
    (block : IsBlockOf tells (env_records log.file files) roots commit (next_place_of log) touches built)
    (maps : (tree : ℕ) → is_some (env_trees log.file files roots tree) ≡ true) where
  -- its trees are those before with the touched keys
  pub new_trees : (tree : ℕ) → trees_with log files built.block built.roots tree ≡ overlaid_trees touches (env_trees log.file files roots) tree
  new_trees tree = if_there (env_trees log.file files roots tree) (trees_with log files built.block built.roots tree) (λ base. overlaid base (touches tree)) (maps tree) (block.trees told tree)

  pub next_block : is_some (rows_of (overlaid_trees touches (env_trees log.file files roots))) ≡ true → IsNextBlock log files built.block built.back built.roots commit
  next_block rows = record {
    some = block.some;
    within = block.within;
    fits = block.fits;
    root = block.root;
    maps = λ tree. ap is_some (new_trees tree) ∙ mapped_there (env_trees log.file files roots tree) (λ base. overlaid base (touches tree)) (maps tree);
    tables = ap (λ (t : Trees). is_some (rows_of t)) (fun_ext new_trees) ∙ rows;
  }
