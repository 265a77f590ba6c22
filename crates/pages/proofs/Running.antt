-- What a run leaves, from what is certain of every page store.
use Rattle.std.proofs.Common.{◌≡◌, ℕ, ◌<◌, cond, ◌&&◌, eqb, List, [], ◌∷◌, length, Some, None, vec_items, Option, unwrap_or, refl, ap, ◌∙◌, arith}
use Rattle.std.proofs.lemmas.Bool.Decides.{nat_tests}
use Rattle.pages.specs.declared.call.Call.{Call}
use Rattle.pages.specs.declared.call.Call.TheVariants.{Read, Write}
use Rattle.pages.specs.declared.fault.StoreRefusal.{StoreRefusal}
use Rattle.pages.specs.Store.{Rules, Lawful, refusal_at, written, Usable}
use Rattle.pages.specs.Runs.{step_of, run_of, writes, later, last_written, Kept}
use Rattle.pages.proofs.Refusals.{none_usable, unrefused}

-- What one call leaves.
record Step {M : Type 0} (r : Rules M) (page : ℕ → Option (List ℕ)) (before after : M) : Type 0 where
  good : r.good after
  count : r.count after ≡ r.count before
  bad : (k : ℕ) → r.bad after k ≡ r.bad before k
  slot : (k : ℕ) → Usable r before k → r.slot after k ≡ unwrap_or (page k) (r.slot before k)

module _ {M : Type 0} (r : Rules M) (law : Lawful r) where
  module _ (m : M) (g : r.good m) (k : ℕ) (p : List ℕ) where
    -- the slot j after an answered write to k
    answered_slot : (j : ℕ) → length p ≡ 2048 → Usable r m k → Usable r m j
        → r.slot (r.write m k p) j ≡ unwrap_or (cond (eqb k j && eqb (length p) 2048) (Some p) None) (r.slot m j)
    answered_slot j e u v = let w = law.write_slot m k p j g u v e in grind (arith, nat_tests)

    -- a refused write to a good slot has not 2,048 bytes
    refused_slot : (why : StoreRefusal) (j : ℕ) → refusal_at r m k (length p) ≡ Some why → Usable r m j
        → r.slot m j ≡ unwrap_or (cond (eqb k j && eqb (length p) 2048) (Some p) None) (r.slot m j)
    refused_slot why j e v = let none = unrefused r m j (length p) in grind (arith, nat_tests, none)

    write_step : (o : Option StoreRefusal) → refusal_at r m k (length p) ≡ o
        → Step r (λ j. cond (eqb k j && eqb (length p) 2048) (Some p) None) m (written r m k p o)
    write_step None e =
        let t = none_usable r m k (length p) e in
        record {
          good = law.write_good m k p g t.1 t.0;
          count = law.write_count m k p g t.1 t.0;
          bad = λ j. law.write_bad m k p j g t.1 t.0;
          slot = λ j v. answered_slot j t.0 t.1 v;
        }
    write_step (Some why) e = record { good = g; count = refl; bad = λ j. refl; slot = λ j v. refused_slot why j e v }

  step : (c : Call) (m : M) → r.good m → Step r (writes c) m (step_of r c m)
  step (Read k) m g = record { good = g; count = refl; bad = λ j. refl; slot = λ j v. refl }
  step (Write k page) m g = write_step m g k (vec_items page) (refusal_at r m k (length (vec_items page))) refl

  later_value : (first second : Option (List ℕ)) (s : List ℕ) → unwrap_or second (unwrap_or first s) ≡ unwrap_or (later first second) s
  later_value first None s = refl
  later_value first (Some p) s = refl

  pub run_kept : (cs : List Call) (m : M) → r.good m → Kept r cs m (run_of r cs m)
  run_kept [] m g = record { count = refl; bad = λ k. refl; slot = λ k u. refl }
  run_kept (c ∷ cs) m g =
      let one = step c m g in
      let rest = run_kept cs (step_of r c m) one.good in
      record {
        count = rest.count ∙ one.count;
        bad = λ k. rest.bad k ∙ one.bad k;
        slot = λ k u.
            let there : k < r.count (step_of r c m) = rw one.count u.0 in
            rest.slot k (there, one.bad k ∙ u.1) ∙ ap (unwrap_or (last_written cs k)) (one.slot k u)
            ∙ later_value (writes c k) (last_written cs k) (r.slot m k);
      }
