-- What is certain of the three parts once a call has passed its tests.
use Rattle.std.proofs.Common.{◌≡◌, ℕ, ◌+◌, ◌-◌, ◌*◌, ◌/◌, ◌%◌, false, None, Ok, Err, Result, sym, refl, ap, ◌∙◌, subst}
use Rattle.std.proofs.lemmas.Bool.{and_from, eq-eqb, false≢true}
use Rattle.model.specs.declared.calls.Refusal.{Refusal}
use Rattle.model.specs.declared.shape.Request.{Request}
use Rattle.model.specs.Certain.{CertainOf, Handing, HandsOver, Leading}
use Rattle.model.specs.Law.{Consistent}
use Rattle.model.specs.Layout.{fixed_in}
use Rattle.model.specs.Refusals.{decode_fix, decode_load, decode_store, full, where_is}
use Rattle.model.specs.Steps.{brought_frame, taking}
use Rattle.model.specs.World.{LawfulParts, Parts, World}
use Rattle.model.proofs.Decoded.{Reached, fix_ok, load_ok, store_ok}
use Rattle.model.proofs.Fault.{handed_some, handed_to, slot_of}
use Rattle.model.proofs.Find.{frame_none}
use Rattle.model.proofs.Own.{real_is, usable_passes}
use Rattle.model.proofs.Ready.{Ready, ready}

module _ {T P S : Type 0} (r : Parts T P S) (law : LawfulParts r) (w : World T P S) (k : Consistent r w) where
  leads : (a key f : ℕ) (next : World T P S) → Ready r (a / 2048) key w f next
      → (r.translator.translate next.translator next.storage a).answer ≡ Ok (2048 * f + a % 2048)
  leads a key f next d =
      let n = d.brought.consistent in
      real_is r.translator law.translator next.config n.fits next.records n.table next.translator n.good.translator n.paired next.storage d.long
      a f key d.part d.brought.pageable d.brought.has d.segment d.entry

  module _ (p : ℕ) (q : Request) (h : Reached w p q) (room : full w (where_is w p) ≡ false) where
    hands_over : q.frame ≡ None → HandsOver r w
    hands_over none =
        let here : where_is w p ≡ None = sym (ap (λ (x : Request). x.frame) h.is) ∙ none in
        let left : fixed_in w.records w.config.supervisor (w.config.frames - w.config.supervisor) ≡ w.config.frames - w.config.supervisor → ⊥ =
        λ z. false≢true (sym (subst (λ o. full w o ≡ false) here room) ∙ and_from _ _ (eq-eqb _ _ z) refl) in
        let o = handed_to r law w k p q.key h.part (frame_none w.config w.storage w.records k.fits.some p here) left h.long in
        record {
          frame = handed_some r.policy law.policy w.config k.fits w.records w.policy k.good.policy k.holding left (taking r w).frame (taking r w).left
              (law.policy.take_picks w.policy w.keys k.good.policy);
          pageable = o.pageable;
          unfixed = o.unfixed;
        }

  -- by what the tests give
  load_cases : (a key : ℕ) (o : Result Request Refusal) → decode_load w a key ≡ o → Handing r w o × Leading r w a o
  load_cases a key (Err why) e = (tt, tt)
  load_cases a key (Ok q) e =
      let h = load_ok w a key q e in
      (hands_over (a / 2048) q h.0 h.1, leads a q.key (brought_frame r w q.frame) _ (ready r law w k (a / 2048) q h.0 h.1))

  store_cases : (a key : ℕ) (o : Result Request Refusal) → decode_store w a key ≡ o → Handing r w o × Leading r w a o
  store_cases a key (Err why) e = (tt, tt)
  store_cases a key (Ok q) e =
      let h = store_ok w a key q e in
      (hands_over (a / 2048) q h.0 h.1, leads a q.key (brought_frame r w q.frame) _ (ready r law w k (a / 2048) q h.0 h.1))

  fix_cases : (p : ℕ) (o : Result Request Refusal) → decode_fix w p ≡ o → Handing r w o
  fix_cases p (Err why) e = tt
  fix_cases p (Ok q) e = let h = fix_ok w p q e in hands_over p q h.0 h.1

pub certain_of : {T P S : Type 0} (r : Parts T P S) → LawfulParts r → CertainOf r
certain_of r law w k = record {
  load = λ a key. load_cases r law w k a key (decode_load w a key) refl;
  store = λ a key. store_cases r law w k a key (decode_store w a key) refl;
  fix = λ p. fix_cases r law w k p (decode_fix w p) refl;
  slots = λ p key part. usable_passes r.store w.store (p - w.config.supervisor) 2048 (k.slots (p - w.config.supervisor) (slot_of r law w.config k.fits p key part)) refl;
}
