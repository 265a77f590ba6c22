-- Each call answers as the flat machine does, and leaves the two side by side.
use Rattle.std.proofs.Common.{◌≡◌, ℕ, ◌+◌, ◌-◌, ◌*◌, ◌/◌, ◌%◌, ◌<◌, ◌≤◌, Bool, true, false, cond, ◌&&◌, ◌||◌, eqb, ltb, leb, ◌⊎◌, List, get_or, Some, None, Ok, Err, Option, Result, sym, refl, ap, ◌∙◌, subst, inl, inr, arith}
use Rattle.std.specs.Result.{result_unwrap_or}
use Rattle.std.proofs.lemmas.List.{get_or-set_same, get_or-set_other}
use Rattle.std.proofs.lemmas.Bool.{and_from, cases_eq, cases_lt, eq-eqb, false≢true}
use Rattle.model.specs.declared.calls.Refusal.{Refusal}
use Rattle.model.specs.declared.calls.Refusal.TheVariants.{Sizes, Key, Protection, FixLimit, NotFixed, AllFixed, Tables}
use Rattle.model.specs.declared.shape.Request.{Request}
use Rattle.model.specs.Flat.{Flat, fixed_pages, flat_fix, flat_free, flat_full, flat_load, flat_room, flat_store}
use Rattle.model.specs.Law.{Belongs, Consistent, Fixed, HasFixed, HeldOnce, InTables, Pageable, Placed, Stands}
use Rattle.model.specs.Layout.{bit15, controls_of, counted, entries_are, entry_at, entry_for, entry_is, entry_should, fixed_in, fixes_in, frame_of, frames_are, key_of, no_page, out_entry, page_in, segment_at, segment_entries, segments, segments_are}
use Rattle.model.specs.Refusals.{and_then, decode_fix, decode_free, decode_load, decode_store, fixes_of, full, page_key, right_length, room_and_tables, tables_right, unless, where_is}
use Rattle.model.specs.Steps.{asked, brought}
use Rattle.model.specs.World.{Config, LawfulParts, Parts, World}
use Rattle.model.proofs.Beside.{Mem, brought_mem, tables_right_lem}
use Rattle.model.proofs.Decoded.{Reached, key_ok}
use Rattle.model.proofs.Find.{frame_none, frame_some}
use Rattle.model.proofs.Own.{frame_listed, real_is, real_page}
use Rattle.model.proofs.Ready.{Ready}
use Rattle.model.proofs.Walks.{walks_to}
use Rattle.storage.specs.Bytes.{half, page, word}
use Rattle.storage.specs.Over.{laws}
use Rattle.tables.specs.declared.Controls.{Controls}
use Rattle.tables.specs.Walk.{walk}

-- An entry that is four times a frame without its bit 15 is valid and names this frame.
valid_entry : (s : List ℕ) (p f : ℕ) → f < 256 → half s (entry_at p) / 2 ≡ 4 * f → Belongs s p f
valid_entry s p f h e = record { valid = omega arith; names = omega arith }

named_frame : (s : List ℕ) (p f g : ℕ) → g < 256 → half s (entry_at p) / 2 ≡ 4 * g → Belongs s p f → g ≡ f
named_frame s p f g h e b = let v = valid_entry s p g h e in sym v.names ∙ b.names

-- An entry that is no frame's is invalid.
invalid_entry : (s : List ℕ) (p f v : ℕ) → half s (entry_at p) / 2 ≡ v → v / 2 % 2 ≡ 1 → Belongs s p f → ⊥
invalid_entry s p f v e odd b = let z = b.valid in omega arith

-- Tests that agree: both pass, or both refuse for the same reason.
abbrev pub Agree : {A : Type 0} → Result A Refusal → Result (Unit {0}) Refusal → Type 0
Agree (Ok x) (Ok y) = Unit {0}
Agree (Ok x) (Err y) = ⊥
Agree (Err x) (Ok y) = ⊥
Agree (Err x) (Err y) = x ≡ y

-- What holds where both pass, and where both refuse, holds of tests that agree.
pub agree_cases : {A : Type 0} (P : Result A Refusal → Result (Unit {0}) Refusal → Type 0) (d : Result A Refusal) (f : Result (Unit {0}) Refusal)
    → Agree d f → ((x : A) → d ≡ Ok x → P (Ok x) (Ok tt)) → ((x y : Refusal) → x ≡ y → P (Err x) (Err y)) → P d f
agree_cases P (Ok x) (Ok tt) g both none = both x refl
agree_cases P (Ok x) (Err y) g both none = absurd g
agree_cases P (Err x) (Ok y) g both none = absurd g
agree_cases P (Err x) (Err y) g both none = none x y g

agree_chain : {A B : Type 0} (t : Result A Refusal) (next : A → Result B Refusal) (other : A → Result (Unit {0}) Refusal)
    → ((x : A) → t ≡ Ok x → Agree (next x) (other x)) → Agree (and_then t next) (and_then t other)
agree_chain (Ok x) next other h = h x refl
agree_chain (Err why) next other h = refl

agree_first : {B : Type 0} (b : Bool) (why : Refusal) (next : Unit {0} → Result B Refusal) (other : Result (Unit {0}) Refusal)
    → b ≡ true → Agree (next tt) other → Agree (and_then (unless b why) next) other
agree_first b why next other e h = subst (λ x. Agree (and_then (unless x why) next) other) (sym e) h

module _ {T P S : Type 0} (r : Parts T P S) (law : LawfulParts r) where
  -- The machine beside the flat machine.
  pub record Side (w : World T P S) (m : Flat) : Type 0 where
    pub mem : Mem r w m.bytes m.fixes
    pub same : m.config ≡ w.config

  -- Frames and fixed pages.
  module _ (w : World T P S) (k : Consistent r w) (m : Flat) (d : Side w m) where
    small : (f : ℕ) → Pageable w.config f → f < 256
    small f fp = let a = fp.1 in let b = k.fits.few in omega arith

    -- the frame of a fixed page
    fixed_in_lem : (p : ℕ) → Fixed m p → (f : ℕ) × Pageable w.config f × (page_in w.records f ≡ p)
    fixed_in_lem p fixed = go (where_is w p) refl
      where
        go : (o : Option ℕ) → where_is w p ≡ o → (f : ℕ) × Pageable w.config f × (page_in w.records f ≡ p)
        go (Some f) e = let h = frame_some w.config w.storage w.records k.fits.some p f e in (f, h.0, h.1)
        go None e = let z = d.mem.counts.outside p (frame_none w.config w.storage w.records k.fits.some p e) in absurd (omega arith)

    -- a fixed page is below V, and so is no vacancy
    fixed_page : (p : ℕ) → Fixed m p → p ≡ no_page → ⊥
    fixed_page p fixed e =
        let z : get_or m.fixes p 0 ≡ 0 = Rattle.std.proofs.lemmas.List.get_or_past m.fixes p 0 (let l = d.mem.counts.long in let n = k.fits.most in omega arith) in
        omega arith

    frame_entry : (f p : ℕ) → Pageable w.config f → page_in w.records f ≡ p → (p ≡ no_page → ⊥) → half w.storage (entry_at p) / 2 ≡ 4 * f
    frame_entry f p fp is ne = ap (λ x. half w.storage (entry_at x) / 2) (sym is) ∙ d.mem.entries.inside f fp (λ z. ne (sym is ∙ z))

    count_is : (f p : ℕ) → Pageable w.config f → page_in w.records f ≡ p → (p ≡ no_page → ⊥) → get_or m.fixes p 0 ≡ fixes_in w.records f
    count_is f p fp is ne = ap (λ x. get_or m.fixes x 0) (sym is) ∙ d.mem.counts.inside f fp (λ z. ne (sym is ∙ z))

    -- a page whose valid entry names f: the supervisor's own, or the page that f's record names
    belongs_frame : (p f : ℕ) → InTables w.config p → Belongs w.storage p f
        → ((p < w.config.supervisor) × (f ≡ p)) ⊎ (Pageable w.config f × (page_in w.records f ≡ p))
    belongs_frame p f pt b = elim (cases_lt p w.config.supervisor) [
      | inl l ↦ inl (l, sym (named_frame w.storage p f p (let a = k.fits.some in let c = k.fits.few in omega arith) (d.mem.entries.supervisor p l) b))
      | inr l ↦ by_key (key_of w.config.partitions p) refl l
    ]
      where
        by_frame : (key : ℕ) → key_of w.config.partitions p ≡ Some key → (o : Option ℕ) → where_is w p ≡ o
            → ((p < w.config.supervisor) × (f ≡ p)) ⊎ (Pageable w.config f × (page_in w.records f ≡ p))
        by_frame key part (Some g) e =
            let h = frame_some w.config w.storage w.records k.fits.some p g e in
            let same = named_frame w.storage p f g (small g h.0) (frame_entry g p h.0 h.1 (real_page w.config k.fits p key part)) b in
            inr (subst (λ x. Pageable w.config x × (page_in w.records x ≡ p)) same (h.0, h.1))
        by_frame key part None e =
            let o = d.mem.entries.outside p key part (frame_none w.config w.storage w.records k.fits.some p e) in
            absurd (invalid_entry w.storage p f (2 + 8 * key) o (omega arith) b)

        by_key : (o : Option ℕ) → key_of w.config.partitions p ≡ o → w.config.supervisor ≤ p
            → ((p < w.config.supervisor) × (f ≡ p)) ⊎ (Pageable w.config f × (page_in w.records f ≡ p))
        by_key None e l = absurd (invalid_entry w.storage p f 16386 (d.mem.entries.unused p pt l e) (omega arith) b)
        by_key (Some key) e l = by_frame key e (where_is w p) refl

    each : (f : ℕ) → Pageable w.config f → HeldOnce r w m f ⊎ HasFixed r w m f
    each f fp = elim (cases_eq (fixes_in w.records f) 0) [
      | inl z ↦ inl (record {
        once = k.holding.free f fp z;
        unfixed = λ p pt fixed b.
            let g = fixed_in_lem p fixed in
            let same = named_frame w.storage p f g.0 (small g.0 g.1) (frame_entry g.0 p g.1 g.2 (fixed_page p fixed)) b in
            let c = count_is g.0 p g.1 g.2 (fixed_page p fixed) in
            let cf = ap (fixes_in w.records) same in
            omega arith;
      })
      | inr z ↦
          let ne : page_in w.records f ≡ no_page → ⊥ = λ e. z (k.table.unused f fp e) in
          let c = count_is f (page_in w.records f) fp refl ne in
          inr (record {
            not_held = k.holding.fixed f fp (omega arith);
            page_of = page_in w.records f;
            listed = frame_listed w.config k.fits w.records k.table f fp ne;
            fixed = omega arith;
            belongs = valid_entry w.storage (page_in w.records f) f (small f fp) (d.mem.entries.inside f fp ne);
          })
    ]

    pub placed : Placed r w m
    placed = record {
      each_frame = each;
      each_fixed = λ p fixed.
          let g = fixed_in_lem p fixed in
          let ne = fixed_page p fixed in
          let c = count_is g.0 p g.1 g.2 ne in
          (g.0, g.1, valid_entry w.storage p g.0 (small g.0 g.1) (frame_entry g.0 p g.1 g.2 ne), k.holding.fixed g.0 g.1 (omega arith));
      apart = λ p q f pt qt bp bq. elim (belongs_frame p f pt bp) [
        | inl a ↦ elim (belongs_frame q f qt bq) [
          | inl b ↦ sym a.1 ∙ b.1
          | inr b ↦ let x = b.0.0 in let y = a.0 in let z = a.1 in absurd (omega arith)
        ]
        | inr a ↦ elim (belongs_frame q f qt bq) [
          | inl b ↦ let x = a.0.0 in let y = b.0 in let z = b.1 in absurd (omega arith)
          | inr b ↦ sym a.1 ∙ b.1
        ]
      ];
    }

  -- An address whose page is in frame f: its byte, and where the walk leads.
  module _ (w : World T P S) (k : Consistent r w) (bytes fixes : List ℕ) (m : Mem r w bytes fixes) (a key f : ℕ)
      (part : key_of w.config.partitions (a / 2048) ≡ Some key) (fp : Pageable w.config f) (has : page_in w.records f ≡ a / 2048) where
    ne : page_in w.records f ≡ no_page → ⊥
    ne z = real_page w.config k.fits (a / 2048) key part (sym has ∙ z)

    entry_is_lem : half w.storage (entry_at (a / 2048)) / 2 ≡ 4 * f
    entry_is_lem = ap (λ x. half w.storage (entry_at x) / 2) (sym has) ∙ m.entries.inside f fp ne

    segment_is_lem : word w.storage (segment_at (a / 2048 / 32)) ≡ Rattle.model.specs.Layout.segment_word w.config (a / 2048 / 32)
    segment_is_lem = m.entries.segment (a / 2048 / 32) (let h = (k.fits.keys (a / 2048) key part).1 in omega arith)

    pub byte_is : get_or w.storage (2048 * f + a % 2048) 0 ≡ get_or bytes a 0
    byte_is =
        let il : a % 2048 < 2048 = omega arith in
        sym (laws.pages.page_at w.storage (2048 * f) (a % 2048) il)
        ∙ ap (λ l. get_or l (a % 2048) 0) (m.content.inside f fp ne ∙ ap (λ x. page bytes (2048 * x)) has)
        ∙ laws.pages.page_at bytes (2048 * (a / 2048)) (a % 2048) il
        ∙ ap (λ n. get_or bytes n 0) (let e : 2048 * (a / 2048) + a % 2048 ≡ a = omega arith in e)

    pub leads : walk w.storage (r.translator.controls w.translator) a ≡ Ok (2048 * f + a % 2048)
    leads =
        ap (λ (x : Controls). walk w.storage x a) k.paired.words
        ∙ walks_to w.config k.fits w.storage m.entries.long a f (k.fits.keys (a / 2048) key part).1 fp.1 segment_is_lem entry_is_lem

    pub stands : (config : Config) → Stands r w (record { config = config; bytes = bytes; fixes = fixes }) a
    stands config = record { real = 2048 * f + a % 2048; walked = leads; byte = byte_is }

  -- The address that the translator answers.
  pub asked_is : (w next : World T P S) (a key f : ℕ) → Ready r (a / 2048) key w f next → asked r a f next ≡ 2048 * f + a % 2048
  asked_is w next a key f d =
      let k = d.brought.consistent in
      ap (λ o. result_unwrap_or o (2048 * f + a % 2048))
      (real_is r.translator law.translator next.config k.fits next.records k.table next.translator k.good.translator k.paired next.storage d.long
      a f key d.part d.brought.pageable d.brought.has d.segment d.entry)

  module _ (w : World T P S) (k : Consistent r w) (bytes fixes : List ℕ) (m : Mem r w bytes fixes) where
    abbrev pub flat_of : Flat
    flat_of = record { config = w.config; bytes = bytes; fixes = fixes }

    length_right : right_length w ≡ true
    length_right = eq-eqb _ _ m.entries.long

    pub counts_agree : (p key : ℕ) → key_of w.config.partitions p ≡ Some key → (o : Option ℕ) → where_is w p ≡ o → fixes_of w.records o ≡ get_or fixes p 0
    counts_agree p key part (Some f) e =
        let h = frame_some w.config w.storage w.records k.fits.some p f e in
        sym (ap (λ x. get_or fixes x 0) (sym h.1) ∙ m.counts.inside f h.0 (λ z. real_page w.config k.fits p key part (sym h.1 ∙ z)))
    counts_agree p key part None e = sym (m.counts.outside p (frame_none w.config w.storage w.records k.fits.some p e))

    full_agrees : (p key : ℕ) → key_of w.config.partitions p ≡ Some key → full w (where_is w p) ≡ flat_full flat_of p
    full_agrees p key part =
        ap (λ n. eqb n (w.config.frames - w.config.supervisor) && eqb (fixes_of w.records (where_is w p)) 0) (sym m.counts.same)
        ∙ ap (λ n. eqb (fixed_pages fixes 0 w.config.pages) (w.config.frames - w.config.supervisor) && eqb n 0) (counts_agree p key part (where_is w p) refl)

    room_agrees : (p key : ℕ) → key_of w.config.partitions p ≡ Some key → Agree (room_and_tables w p key (where_is w p)) (flat_room flat_of p)
    room_agrees p key part =
        subst (λ b. Agree {A = Request} (cond b (Err AllFixed) (cond (tables_right w p key (where_is w p)) (Ok (record { page = p; key = key; frame = where_is w p })) (Err Tables))) (flat_room flat_of p)) (sym (full_agrees p key part))
        (subst (λ b. Agree {A = Request} (cond (flat_full flat_of p) (Err AllFixed) (cond b (Ok (record { page = p; key = key; frame = where_is w p })) (Err Tables))) (flat_room flat_of p))
        (sym (tables_right_lem r law w k bytes fixes m p key (where_is w p) part refl))
        (elim (flat_full flat_of p) as (λ b. Agree {A = Request} (cond b (Err AllFixed) (Ok (record { page = p; key = key; frame = where_is w p }))) (cond b (Err AllFixed) (Ok tt))) [ true ↦ refl | false ↦ tt ]))

    pub load_agrees : (a key : ℕ) → Agree (decode_load w a key) (flat_load flat_of a key)
    unfolding decode_load flat_load
    load_agrees a key = agree_first (right_length w) Sizes _ _ length_right
        (agree_chain (unless (leb key 15) Key) _ _ (λ _ _. agree_chain (page_key w.config (a / 2048)) _ _ (λ own e. room_agrees (a / 2048) own (key_ok w.config (a / 2048) own e))))

    pub store_agrees : (a key : ℕ) → Agree (decode_store w a key) (flat_store flat_of a key)
    unfolding decode_store flat_store
    store_agrees a key = agree_first (right_length w) Sizes _ _ length_right
        (agree_chain (unless (leb key 15) Key) _ _ (λ _ _. agree_chain (page_key w.config (a / 2048)) _ _ (λ own e.
        agree_chain (unless (eqb key 0 || eqb key own) Protection) _ _ (λ _ _. room_agrees (a / 2048) own (key_ok w.config (a / 2048) own e)))))

    pub fix_agrees : (p : ℕ) → Agree (decode_fix w p) (flat_fix flat_of p)
    unfolding decode_fix flat_fix
    fix_agrees p = agree_first (right_length w) Sizes _ _ length_right
        (agree_chain (page_key w.config p) _ _ (λ own e.
        let part = key_ok w.config p own e in
        subst (λ n. Agree (and_then (unless (ltb (fixes_of w.records (where_is w p)) 255) FixLimit) (λ _. room_and_tables w p own (where_is w p))) (and_then (unless (ltb n 255) FixLimit) (λ _. flat_room flat_of p)))
        (counts_agree p own part (where_is w p) refl)
        (agree_chain (unless (ltb (fixes_of w.records (where_is w p)) 255) FixLimit) _ _ (λ _ _. room_agrees p own part))))

    pub free_agrees : (p : ℕ) → Agree (decode_free w p) (flat_free flat_of p)
    unfolding decode_free flat_free
    free_agrees p = agree_first (right_length w) Sizes _ _ length_right
        (agree_chain (page_key w.config p) _ _ (λ own e.
        let part = key_ok w.config p own e in
        subst (λ n. Agree {A = Request} (and_then (unless (ltb 0 (fixes_of w.records (where_is w p))) NotFixed) (λ _. cond (tables_right w p own (where_is w p)) (Ok (record { page = p; key = own; frame = where_is w p })) (Err Tables))) (unless (ltb 0 n) NotFixed))
        (counts_agree p own part (where_is w p) refl)
        (subst (λ b. Agree {A = Request} (and_then (unless (ltb 0 (fixes_of w.records (where_is w p))) NotFixed) (λ _. cond b (Ok (record { page = p; key = own; frame = where_is w p })) (Err Tables))) (unless (ltb 0 (fixes_of w.records (where_is w p))) NotFixed))
        (sym (tables_right_lem r law w k bytes fixes m p own (where_is w p) part refl))
        (elim (ltb 0 (fixes_of w.records (where_is w p))) as (λ b. Agree {A = Request} (and_then (unless b NotFixed) (λ _. Ok (record { page = p; key = own; frame = where_is w p }))) (unless b NotFixed)) [ true ↦ tt | false ↦ refl ]))))

    -- a page that has passed its tests is brought in, and memory is right
    pub reached_mem : (p : ℕ) (q : Request) → Reached w p q → full w (where_is w p) ≡ false → Mem r (brought r q.page q.key w q.frame) bytes fixes
    reached_mem p q h room =
        subst (λ (x : Request). Mem r (brought r x.page x.key w x.frame) bytes fixes) (sym h.is)
        (brought_mem r law w k bytes fixes m p q.key (where_is w p) h.part refl
        (λ none z. false≢true (sym (subst (λ o. full w o ≡ false) none room) ∙ and_from _ _ (eq-eqb _ _ z) refl)))
