-- A branch that is put away.
use Rattle.std.proofs.Common.{◌≡◌, List, [], ◌∷◌, ◌++◌, length, Bool, Option, Some, refl, sym, ◌∙◌, ap, subst, arith}
use Rattle.std.proofs.lemmas.List.{length-append}
use Rattle.xod_block.specs.declared.address.Address.{Address}
use Rattle.xod_block.specs.Maps.{RecordsAt}
use Rattle.xod_trie.specs.declared.branch.Branch.{Branch}
use Rattle.xod_trie_mut.specs.Own.{AreOwn, HasParts, own_address}
use Rattle.xod_trie_mut.specs.Settling.{IsMerged, IsSettled}
use Rattle.xod_trie_mut.proofs.OwnLemmas.{are_own-more, lower-own, stored}

pub settled : (tells : Bool) (R : RecordsAt) (base : Option Address) (own new : List Branch) (b made : Branch) (at : Address) → AreOwn base own → IsMerged tells R base own b made → HasParts made → at ≡ own_address (length own) → new ≡ own ++ made ∷ [] → IsSettled tells R base own new b (Some at)
settled tells R base own new b made at each m parts is put =
    let all : IsSettled tells R base own (own ++ made ∷ []) b (Some (own_address (length own))) = record {
      own = are_own-more base own made each (record { parts = parts; enough = m.enough; lower = m.lower });
      root = lower-own base (length own) (length (own ++ made ∷ [])) (let n = length-append own (made ∷ []) in omega (arith, n));
      stands = λ told maps.
          let a = m.alike told maps in
          let st = stored own (own ++ made ∷ []) R made refl a.maps parts.rising m.enough in
          record { map = st.map; value = λ k. st.value k ∙ a.value k };
    } in
    subst (λ (o : Option Address). IsSettled tells R base own new b o) (ap (λ (a : Address). Some a) (sym is)) (subst (λ (l : List Branch). IsSettled tells R base own l b (Some (own_address (length own)))) (sym put) all)
