-- Every call keeps the machine's own parts, whatever main storage holds, and tells its answer or the first refusal.
use Rattle.std.proofs.Common.{◌≡◌, ℕ, zero, suc, ◌+◌, ◌-◌, ◌*◌, ◌/◌, ◌<◌, ◌≤◌, min, Bool, true, false, cond, not, ◌&&◌, eqb, ◌⊎◌, List, [], ◌∷◌, length, get_or, set, Some, None, Ok, Err, Option, Result, sym, refl, ap, ◌∙◌, subst, inl, inr, arith}
use Rattle.std.specs.Result.{result_err}
use Rattle.std.proofs.lemmas.List.{length-set}
use Rattle.std.proofs.lemmas.Bool.{and_from, and_left, and_parts, cases_eq, cond-false, cond-true, cond_both, eq-eqb, eqb-false, eqb-true, lt-ltb, ne_eqb, not-true}
use Rattle.frames.specs.Keys.{access_of, changed, reference_on, referred}
use Rattle.frames.specs.Policy as policies
use Rattle.model.specs.declared.calls.Call.{Call}
use Rattle.model.specs.declared.calls.Call.TheVariants.{Load, Store, Fix, Free, Purge, Settle}
use Rattle.model.specs.declared.calls.Refusal.{Refusal}
use Rattle.model.specs.declared.shape.FrameRecord.{FrameRecord}
use Rattle.model.specs.declared.shape.Request.{Request}
use Rattle.model.specs.Law.{Consistent, Holding, Pageable, Steady, Told, ToldBy, first_refusal, handed}
use Rattle.model.specs.Layout.{entry_at, entry_should, fixes_in, no_page, page_in, segment_at, segment_entries, segment_word, segments}
use Rattle.model.specs.Refusals.{decode_fix, decode_free, decode_load, decode_purge, decode_settle, decode_store, fixes_of, where_is}
use Rattle.model.specs.Steps.{brought, byte_answer, done_answer, brought_frame, change_off, change_on, fix, fixed_once, fixing, free, freed_in, freeing, load, loaded_in, loading, purge, purged, purging, settle, settled_in, settling, store, stored_in, storing, sweeping, swept, worked}
use Rattle.model.specs.World.{LawfulParts, Parts, World}
use Rattle.model.proofs.Decoded.{fix_ok, free_ok, load_ok, purge_ok, settle_ok, store_ok}
use Rattle.model.proofs.Fault.{Body, body, body_keys, body_out, whole}
use Rattle.model.proofs.Find.{each_entry, each_segment, frame_some}
use Rattle.model.proofs.Own.{access_change_off, access_change_on, access_on, agrees_frame, asked_paired, fixes_here, fixes_there, get_or-set_alike, holding_same, in_table, keyed_put, pages_kept, paired_same, real_page, table_count}
use Rattle.model.proofs.Place.{frame_fits}
use Rattle.model.proofs.Ready.{Ready, ready}
use Rattle.storage.specs.Bytes.{frame, half, word}
use Rattle.storage.specs.Over.{laws}
use Rattle.translation.specs.Translator as translators

module _ {T P S : Type 0} (r : Parts T P S) (law : LawfulParts r) where
  -- the translator asked for an address whose page is ready, the frame's key set, the policy told
  module _ (w next : World T P S) (a key f : ℕ) (d : Ready r (a / 2048) key w f next) (new_key : ℕ)
      (same : access_of new_key ≡ access_of (get_or next.keys f 0)) where
    keyed_body : Body r next.config (set next.keys f new_key) next.records (r.translator.translate next.translator next.storage a).left next.store
    keyed_body =
        let k = d.brought.consistent in
        let b = body_keys r law next.config k.fits next.keys (set next.keys f new_key) next.records next.translator next.store (body r next k)
        (length-set next.keys f new_key) (get_or-set_alike access_of next.keys f new_key 0 same) in
        record {
          good_translator = law.translator.translate_good next.translator next.storage a k.good.translator;
          good_store = b.good_store;
          table = b.table;
          keyed = b.keyed;
          slots = b.slots;
          paired = asked_paired r.translator law.translator next.config k.fits next.records k.table next.translator k.good.translator k.paired
              next.storage d.long a f key d.part d.brought.pageable d.brought.has d.segment d.entry;
        }

    touched : Holding r.policy next.config next.records (r.policy.touch next.policy f)
    touched =
        let k = d.brought.consistent in
        holding_same r.policy next.config next.records next.records next.policy (r.policy.touch next.policy f) k.holding
        (λ g. law.policy.touch_times next.policy f g k.good.policy) (λ g. refl)

  pub loaded_own : (w next : World T P S) (a key f : ℕ) → Ready r (a / 2048) key w f next → Consistent r (loaded_in r a f next)
  loaded_own w next a key f d =
      let k = d.brought.consistent in
      let m = reference_on (get_or next.keys f 0) in
      whole r (loaded_in r a f next) k.fits (keyed_body w next a key f d m (access_on (get_or next.keys f 0)))
      (law.policy.touch_good next.policy f k.good.policy) (touched w next a key f d m (access_on (get_or next.keys f 0)))

  pub stored_own : (w next : World T P S) (a byte key f : ℕ) → Ready r (a / 2048) key w f next → Consistent r (stored_in r a byte f next)
  stored_own w next a byte key f d =
      let k = d.brought.consistent in
      let m = change_on (reference_on (get_or next.keys f 0)) in
      let same = access_change_on (reference_on (get_or next.keys f 0)) ∙ access_on (get_or next.keys f 0) in
      whole r (stored_in r a byte f next) k.fits (keyed_body w next a key f d m same)
      (law.policy.touch_good next.policy f k.good.policy) (touched w next a key f d m same)

  -- the count of a frame that has a page, changed
  module _ (w : World T P S) (k : Consistent r w) (f n : ℕ) (fp : Pageable w.config f) (ne : page_in w.records f ≡ no_page → ⊥) where
    abbrev counts : List FrameRecord
    counts = set w.records f (record { page = page_in w.records f; fixes = n })

    fits_table : f < length w.records
    fits_table = in_table w.config k.fits w.records k.table f fp.1

    pub same_pages : (g : ℕ) → page_in counts g ≡ page_in w.records g
    same_pages = pages_kept w.records f _ refl

    counted_body : Body r w.config w.keys counts w.translator w.store
    counted_body =
        let b = body r w k in
        record {
          good_translator = b.good_translator;
          good_store = b.good_store;
          slots = b.slots;
          table = table_count w.config k.fits w.records k.table f n fp ne;
          keyed = keyed_put w.config k.fits w.records w.keys k.keyed f (record { page = page_in w.records f; fixes = n }) fits_table (λ key e. k.keyed.access f key fp e);
          paired = paired_same r.translator w.config w.records counts w.translator k.paired same_pages;
        }

    -- holdings, by what the policy holds of f then
    counted_holding : (m : P) → ((g : ℕ) → (g ≡ f → ⊥) → r.policy.times m g ≡ r.policy.times w.policy g)
        → (n ≡ 0 → r.policy.times m f ≡ 1) → (0 < n → r.policy.times m f ≡ 0) → Holding r.policy w.config counts m
    counted_holding m others none some = record {
      free = λ g gp e. elim (cases_eq g f) [
        | inl q ↦ ap (r.policy.times m) q ∙ none (sym (ap (fixes_in counts) q ∙ fixes_here w.records f _ fits_table) ∙ e)
        | inr q ↦ others g q ∙ k.holding.free g gp (sym (fixes_there w.records f _ g q) ∙ e)
      ];
      fixed = λ g gp l. elim (cases_eq g f) [
        | inl q ↦ ap (r.policy.times m) q ∙ some (subst (λ x. 0 < x) (ap (fixes_in counts) q ∙ fixes_here w.records f _ fits_table) l)
        | inr q ↦ others g q ∙ k.holding.fixed g gp (subst (λ x. 0 < x) (fixes_there w.records f _ g q) l)
      ];
      other = λ g o. others g (λ q. outside g q o) ∙ k.holding.other g o;
    }
      where
        outside : (g : ℕ) → g ≡ f → (g < w.config.supervisor) ⊎ (w.config.frames ≤ g) → ⊥
        outside g q (inl l) = let a = fp.0 in omega arith
        outside g q (inr l) = let a = fp.1 in omega arith

  -- a count that has gone up is above 0
  counted_on : (x : ℕ) → 0 < min 255 (x + 1)
  counted_on zero = omega arith
  counted_on (suc x) = omega arith

  -- a page fixed once more
  pub fixed_own : (w : World T P S) → Consistent r w → (f : ℕ) → Pageable w.config f → (page_in w.records f ≡ no_page → ⊥) → Consistent r (fixed_once r f w)
  fixed_own w k f fp ne =
      let n = min 255 (fixes_in w.records f + 1) in
      let some : 0 < n = counted_on (fixes_in w.records f) in
      let leave = r.policy.leave w.policy f in
      let gone : (g : ℕ) → r.policy.times leave g ≡ cond (eqb g f) 0 (r.policy.times w.policy g) = λ g. law.policy.leave_times w.policy f g k.good.policy in
      let h = cond_both (eqb (fixes_in w.records f) 0) leave w.policy (λ m. r.policy.good m × Holding r.policy w.config (counts w k f n fp ne) m)
      (λ e. (
        law.policy.leave_good w.policy f k.good.policy,
        counted_holding w k f n fp ne leave (λ g q. gone g ∙ cond-false (eqb g f) 0 (r.policy.times w.policy g) (ne_eqb g f q))
            (λ z. absurd (omega arith)) (λ _. gone f ∙ cond-true (eqb f f) 0 (r.policy.times w.policy f) (eq-eqb f f refl)),
      ))
      (λ e. let more = eqb-false _ _ e in (
        k.good.policy,
        counted_holding w k f n fp ne w.policy (λ g q. refl) (λ z. absurd (omega arith)) (λ _. k.holding.fixed f fp (omega arith)),
      )) in
      whole r (fixed_once r f w) k.fits (counted_body w k f n fp ne) h.0 h.1

  -- a page freed once
  pub freed_own : (w : World T P S) → Consistent r w → (f : ℕ) → Pageable w.config f → (page_in w.records f ≡ no_page → ⊥) → 0 < fixes_in w.records f → Consistent r (freed_in r f w)
  freed_own w k f fp ne pos =
      let n = fixes_in w.records f - 1 in
      let rf = referred (get_or w.keys f 0) in
      let ch = changed (get_or w.keys f 0) in
      let back = r.policy.return_frame w.policy f rf ch in
      let free = policies.free r.policy w.policy f in
      let f256 : f < 256 = let a = fp.1 in let b = k.fits.few in omega arith in
      let enterable : free ≡ true = and_from _ _ (lt-ltb f 256 f256) (eq-eqb _ _ (k.holding.fixed f fp pos)) in
      let held : (g : ℕ) → r.policy.times back g ≡ cond (eqb g f && free) 1 (r.policy.times w.policy g) = λ g. law.policy.return_times w.policy f g rf ch k.good.policy in
      let h = cond_both (eqb (fixes_in w.records f) 1) back w.policy (λ m. r.policy.good m × Holding r.policy w.config (counts w k f n fp ne) m)
      (λ e. let one = eqb-true _ _ e in (
        law.policy.return_good w.policy f rf ch k.good.policy,
        counted_holding w k f n fp ne back (λ g q. held g ∙ cond-false (eqb g f && free) 1 (r.policy.times w.policy g) (and_left _ _ (ne_eqb g f q)))
            (λ _. held f ∙ cond-true (eqb f f && free) 1 (r.policy.times w.policy f) (and_from _ _ (eq-eqb f f refl) enterable)) (λ z. absurd (omega arith)),
      ))
      (λ e. let more = eqb-false _ _ e in (
        k.good.policy,
        counted_holding w k f n fp ne w.policy (λ g q. refl) (λ z. absurd (omega arith)) (λ _. k.holding.fixed f fp pos),
      )) in
      whole r (freed_in r f w) k.fits (counted_body w k f n fp ne) h.0 h.1

  -- a frame settled
  pub settled_own : (w : World T P S) → Consistent r w → (f : ℕ) → Pageable w.config f → length w.storage ≡ 2048 * w.config.frames → Consistent r (settled_in r f w)
  settled_own w k f fp long = by_change (not (eqb (page_in w.records f) no_page) && changed (get_or w.keys f 0)) refl
    where
      by_change : (b : Bool) → (not (eqb (page_in w.records f) no_page) && changed (get_or w.keys f 0)) ≡ b → Consistent r (settling r b f (page_in w.records f) w)
      by_change false e = k
      by_change true e =
          let ne : page_in w.records f ≡ no_page → ⊥ = eqb-false _ _ (not-true _ (and_parts _ _ e).0) in
          let n = k.table.named f fp ne in
          let l = laws.pages.page_long w.storage (2048 * f) (frame_fits w.config k.fits w.storage long f fp.1) in
          let b1 = body_keys r law w.config k.fits w.keys (set w.keys f (change_off (get_or w.keys f 0))) w.records w.translator w.store (body r w k)
          (length-set w.keys f _) (get_or-set_alike access_of w.keys f _ 0 (access_change_off (get_or w.keys f 0))) in
          whole r (settling r true f (page_in w.records f) w) k.fits
          (body_out r law w.config k.fits (set w.keys f (change_off (get_or w.keys f 0))) w.records w.translator w.store b1 f fp (frame w.storage f) (page_in w.records f) n.0 n.1 l)
          k.good.policy k.holding

  pub settled_long : (w : World T P S) (f : ℕ) → length (settled_in r f w).storage ≡ length w.storage
  settled_long w f = by_change (not (eqb (page_in w.records f) no_page) && changed (get_or w.keys f 0))
    where
      by_change : (b : Bool) → length (settling r b f (page_in w.records f) w).storage ≡ length w.storage
      by_change false = refl
      by_change true = (laws.beside.half_within w.storage (entry_at (page_in w.records f)) _).long

  pub swept_own : (f n : ℕ) (w : World T P S) → Consistent r w → w.config.supervisor ≤ f → f + n ≤ w.config.frames → length w.storage ≡ 2048 * w.config.frames
      → Consistent r (swept r f n w)
  unfolding swept
  swept_own f zero w k low h long = k
  swept_own f (suc n) w k low h long =
      swept_own (f + 1) n (settled_in r f w) (settled_own w k f (low, omega arith) long) (omega arith) (omega arith) (settled_long w f ∙ long)

  -- every entry right: what a purge leaves is paired with the frame table
  pub purged_own : (w : World T P S) → Consistent r w → (x : Unit {0}) → decode_purge w ≡ Ok x → Consistent r (purged r w)
  purged_own w k x e =
      let p = purge_ok w x e in
      let t = and_parts _ _ p.1 in
      let segs : (g : ℕ) → g < segment_entries w.config → word w.storage (segment_at g) ≡ segment_word w.config g =
      λ g h. each_segment w.config w.storage 0 (segment_entries w.config) t.0 g (omega arith) (omega arith) in
      let ents : (q : ℕ) → q < 32 * segments w.config → half w.storage (entry_at q) / 2 ≡ entry_should w.config w.storage w.records q / 2 =
      λ q h. eqb-true _ _ (each_entry w.config w.storage w.records 0 (32 * segments w.config) t.1 q (omega arith) (omega arith)) in
      record {
        good = record { translator = law.translator.purge_good w.translator w.storage k.good.translator; policy = k.good.policy; store = k.good.store };
        fits = k.fits;
        table = k.table;
        keyed = k.keyed;
        holding = k.holding;
        slots = k.slots;
        paired = record {
          words = law.translator.purge_controls w.translator w.storage k.good.translator ∙ k.paired.words;
          each = λ q start v. agrees_frame w.config k.fits w.records k.table w.storage p.0 segs ents q start
              (subst (λ y. translators.Agrees w.storage y q start) k.paired.words (law.translator.purge_agrees w.translator w.storage q start k.good.translator v));
        };
      }

  -- a page that is ready is no vacancy
  pub ready_page : (p key : ℕ) (w next : World T P S) (f : ℕ) → Ready r p key w f next → page_in next.records f ≡ no_page → ⊥
  ready_page p key w next f d e = real_page next.config d.brought.consistent.fits p key d.part (sym d.brought.has ∙ e)

  -- the frame of a page that is fixed
  pub fixed_frame : (w : World T P S) (k : Consistent r w) (p : ℕ) (o : Option ℕ) → where_is w p ≡ o → 0 < fixes_of w.records o
      → (f : ℕ) × (o ≡ Some f) × Pageable w.config f × (page_in w.records f ≡ p)
  fixed_frame w k p (Some f) e h = let m = frame_some w.config w.storage w.records k.fits.some p f e in (f, refl, m.0, m.1)
  fixed_frame w k p None e h = absurd (omega arith)

  module _ (w : World T P S) (k : Consistent r w) where
    load_own : (a key : ℕ) (q : Result Request Refusal) → decode_load w a key ≡ q → Consistent r (loading r a w q).1
    load_own a key (Err why) e = k
    load_own a key (Ok q) e =
        let h = load_ok w a key q e in
        loaded_own w (brought r q.page q.key w q.frame) a q.key (brought_frame r w q.frame) (ready r law w k (a / 2048) q h.0 h.1)

    store_own : (a key byte : ℕ) (q : Result Request Refusal) → decode_store w a key ≡ q → Consistent r (storing r a byte w q).1
    store_own a key byte (Err why) e = k
    store_own a key byte (Ok q) e =
        let h = store_ok w a key q e in
        stored_own w (brought r q.page q.key w q.frame) a byte q.key (brought_frame r w q.frame) (ready r law w k (a / 2048) q h.0 h.1)

    fix_own : (p : ℕ) (q : Result Request Refusal) → decode_fix w p ≡ q → Consistent r (fixing r w q).1
    fix_own p (Err why) e = k
    fix_own p (Ok q) e =
        let h = fix_ok w p q e in
        let d = ready r law w k p q h.0 h.1 in
        fixed_own (brought r q.page q.key w q.frame) d.brought.consistent (brought_frame r w q.frame) d.brought.pageable (ready_page p q.key w _ _ d)

    free_own : (p : ℕ) (q : Result Request Refusal) → decode_free w p ≡ q → Consistent r (freeing r w q).1
    free_own p (Err why) e = k
    free_own p (Ok q) e =
        let h = free_ok w p q e in
        let f = fixed_frame w k p (where_is w p) refl h.1 in
        let fr : q.frame ≡ Some f.0 = ap (λ (x : Request). x.frame) h.0.is ∙ f.1 in
        let pos : 0 < fixes_in w.records f.0 = subst (λ o. 0 < fixes_of w.records o) f.1 h.1 in
        subst (λ o. Consistent r (freed_in r (brought_frame r w o) w)) (sym fr)
        (freed_own w k f.0 f.2 (λ z. real_page w.config k.fits p q.key h.0.part (sym f.3 ∙ z)) pos)

    purge_own : (q : Result (Unit {0}) Refusal) → decode_purge w ≡ q → Consistent r (purging r w q).1
    purge_own (Err why) e = k
    purge_own (Ok x) e = purged_own w k x e

    settle_own : (q : Result (Unit {0}) Refusal) → decode_settle w ≡ q → Consistent r (sweeping r w q).1
    settle_own (Err why) e = k
    settle_own (Ok x) e =
        let s = k.fits.some in
        swept_own w.config.supervisor (w.config.frames - w.config.supervisor) w k (omega arith) (omega arith) (settle_ok w x e).0

  pub call_own : (c : Call) (w : World T P S) → Consistent r w → Consistent r (worked r c w).1
  unfolding load store fix free purge settle
  call_own (Load a key) w k = load_own w k a key (decode_load w a key) refl
  call_own (Store a key byte) w k = store_own w k a key byte (decode_store w a key) refl
  call_own (Fix p) w k = fix_own w k p (decode_fix w p) refl
  call_own (Free p) w k = free_own w k p (decode_free w p) refl
  call_own Purge w k = purge_own w k (decode_purge w) refl
  call_own Settle w k = settle_own w k (decode_settle w) refl

  -- each call tells its answer or the first refusal, and a refused one leaves everything as found
  pub told : (c : Call) (w : World T P S) → Told r c w (first_refusal c w)
  unfolding load store fix free purge settle
  told (Load a key) w = elim (decode_load w a key) as (λ q. ToldBy r (byte_answer (loading r a w q).0, (loading r a w q).1) w (result_err q)) [ Ok q ↦ refl | Err why ↦ refl ]
  told (Store a key byte) w = elim (decode_store w a key) as (λ q. ToldBy r (done_answer (storing r a byte w q).0, (storing r a byte w q).1) w (result_err q)) [ Ok q ↦ refl | Err why ↦ refl ]
  told (Fix p) w = elim (decode_fix w p) as (λ q. ToldBy r (done_answer (fixing r w q).0, (fixing r w q).1) w (result_err q)) [ Ok q ↦ refl | Err why ↦ refl ]
  told (Free p) w = elim (decode_free w p) as (λ q. ToldBy r (done_answer (freeing r w q).0, (freeing r w q).1) w (result_err q)) [ Ok q ↦ refl | Err why ↦ refl ]
  told Purge w = elim (decode_purge w) as (λ q. ToldBy r (done_answer (purging r w q).0, (purging r w q).1) w (result_err q)) [ Ok q ↦ refl | Err why ↦ refl ]
  told Settle w = elim (decode_settle w) as (λ q. ToldBy r (done_answer (sweeping r w q).0, (sweeping r w q).1) w (result_err q)) [ Ok q ↦ refl | Err why ↦ refl ]

  pub steadies : (cs : List (List ℕ × Call)) (w : World T P S) → Consistent r w → Steady r cs w
  steadies [] w k = k
  steadies (c ∷ cs) w k = (
    k,
    told c.1 (handed r c.0 w),
    steadies cs (worked r c.1 (handed r c.0 w)).1 (call_own c.1 (handed r c.0 w) (record {
      good = k.good;
      fits = k.fits;
      table = k.table;
      keyed = k.keyed;
      holding = k.holding;
      paired = k.paired;
      slots = k.slots;
    })),
  )
