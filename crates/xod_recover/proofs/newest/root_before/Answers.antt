use Rattle.std.proofs.Common.{◌≡◌, ◌≤◌, ◌+◌, ◌-◌, ◌<◌, ℕ, List, length, take, drop, sym, ap, subst, ◌∙◌, arith}
use Rattle.std.specs.Prelude.{IfSome}
use Rattle.std.proofs.lemmas.List.{drop-take, length-drop, length-take}
use Rattle.xod_volume.specs.Files.{Files, bytes_of}
use Rattle.xod_log.specs.Ends.{body_of}
use Rattle.xod_recover.specs.Check.{rooted_in}
use Rattle.xod_recover.specs.Rooted.{SpellsRoot}
use Rattle.xod_recover.proofs.Rooting.{rooted_in-long}
use Rattle.xod_recover.proofs.newest.root_before.Goals as goal

-- the last bytes before an end
last_bytes : (end back : ℕ) (bytes : List ℕ) → back ≤ end → take back (drop (end - back) bytes) ≡ drop (end - back) (take end bytes)
last_bytes end back bytes le =
    let whole : end - back + back ≡ end = omega (arith, le) in
    sym (drop-take (end - back) back bytes) ∙ ap (λ (n : ℕ). drop (end - back) (take n bytes)) whole

-- they are as many as are wanted
many : (end back : ℕ) (bytes : List ℕ) → back ≤ end → end ≤ length bytes → 427 < back → 427 < length (drop (end - back) (take end bytes))
many end back bytes le long lt = omega (arith, le, long, lt, length-drop (end - back) (take end bytes), length-take end bytes)

pub returns-then-marked-gt-LONGEST_ROOT-clause-root : goal.returns-then-marked-gt-LONGEST_ROOT-clause-root
returns-then-marked-gt-LONGEST_ROOT-clause-root g c told =
    let body = bytes_of (g.V.Volume.files c.args.volume.now) (body_of c.args.marked.file) in
    let start = c.args.marked.end - c.args.marked.back in
    let long : 427 < length (drop start (take c.args.marked.end body)) = many c.args.marked.end c.args.marked.back body c.requires.back (c.requires.long told) (omega arith) in
    sym (rooted_in-long (drop start (take c.args.marked.end body)) long)

-- what was read are the bytes that are to be a root
read_is : (end back from : ℕ) (files : Files) (file number : ℕ) (bytes : List ℕ) → back ≤ end → from ≡ back → number ≡ body_of file → bytes ≡ take back (drop (end - from) (bytes_of files number)) → bytes ≡ drop (end - back) (take end (bytes_of files (body_of file)))
read_is end back from files file number bytes le same is e =
    e
    ∙ ap (λ (n : ℕ). take back (drop (end - n) (bytes_of files number))) same
    ∙ ap (λ (n : ℕ). take back (drop (end - back) (bytes_of files n))) is
    ∙ last_bytes end back (bytes_of files (body_of file)) le

pub returns-clause-root : goal.returns-clause-root
returns-clause-root g c told =
    c.root_in.ensures.exactly
    ∙ ap rooted_in (read_is c.args.marked.end c.args.marked.back c.from.result (g.V.Volume.files c.args.volume.now) c.args.marked.file c.body_file.result c.as_slice.result.now c.requires.back c.from.ensures c.body_file.ensures (c.as_slice.ensures ∙ c.in_ok-bytes.ensures.bytes told))

pub returns-clause-spelled : goal.returns-clause-spelled
returns-clause-spelled g c told =
    subst (λ (l : List ℕ). IfSome c.root_in.result (λ root. SpellsRoot root.0 root.1 l))
    (read_is c.args.marked.end c.args.marked.back c.from.result (g.V.Volume.files c.args.volume.now) c.args.marked.file c.body_file.result c.as_slice.result.now c.requires.back c.from.ensures c.body_file.ensures (c.as_slice.ensures ∙ c.in_ok-bytes.ensures.bytes told))
    c.root_in.ensures.spelled
