-- IPL: the tables that it writes, and that the machine it starts is consistent and beside the blank flat machine.
use Rattle.std.proofs.Common.{◌≡◌, ℕ, zero, suc, ◌+◌, ◌-◌, ◌*◌, ◌/◌, ◌^◌, ◌<◌, ◌≤◌, Bool, true, false, cond, ◌&&◌, eqb, ltb, leb, ◌⊎◌, List, [], ◌∷◌, length, get_or, set, replicate, Some, None, Option, sym, refl, ap, ◌∙◌, subst, inl, inr, arith}
use Rattle.std.specs.Option.{option_map, option_or}
use Rattle.std.proofs.lemmas.List.{get_or_past, get_or-replicate, get_or-set_same, get_or-set_other, length-replicate, length-set}
use Rattle.std.proofs.lemmas.Bool.{and_from, and_left, and_parts, cases_eq, cases_lt, cond-false, cond-true, cond_both, eq-eqb, eqb-true, leb-true, lt-ltb, ltb-true, ne_eqb}
use Rattle.frames.specs.Policy as policies
use Rattle.model.specs.declared.shape.FrameRecord.{FrameRecord}
use Rattle.model.specs.declared.shape.Partition.{Partition}
use Rattle.model.specs.Ipl.{first_entry, first_fault, in_order, own_pages, partition_entry, partitions_fit, returned, sizes_fit, slot_fault, with_entries, with_segments, with_tables}
use Rattle.model.specs.Law.{Fits, Holding, Table}
use Rattle.model.specs.Layout.{entry_at, fixes_in, key_of, no_page, page_in, segment_at, segment_entries, segment_word, segments, vacant}
use Rattle.model.specs.World.{Config}
use Rattle.model.proofs.Place.{segment_low}
use Rattle.pages.specs.declared.fault.Fault.{Fault}
use Rattle.pages.specs.declared.fault.StoreRefusal.TheVariants.{BadSlot, NoSuchSlot}
use Rattle.pages.specs.Store as stores
use Rattle.storage.specs.Bytes.{half, put_half, put_word, word}
use Rattle.storage.specs.Over.{laws}

-- Partitions in order: a page of one is not below the start, below the end, and its key is at most 15.
in_order_lem : (from v : ℕ) (all : List Partition) (p key : ℕ) → in_order from v all ≡ true → key_of all p ≡ Some key → (from ≤ p) × (p < v) × (key ≤ 15)
in_order_lem from v [] p key e h = cc
in_order_lem from v (a ∷ rest) p key e h =
    let x = and_parts (leb 1 a.count) _ e in
    let y = and_parts (leb 1 a.key) _ x.1 in
    let z = and_parts (leb a.key 15) _ y.1 in
    let u = and_parts (leb from a.first) _ z.1 in
    let t = and_parts (leb (a.first + a.count) v) _ u.1 in
    let first : from ≤ a.first = leb-true _ _ u.0 in
    let last : a.first + a.count ≤ v = leb-true _ _ t.0 in
    let most : a.key ≤ 15 = leb-true _ _ z.0 in
    (elim (leb a.first p && ltb p (a.first + a.count)) as (λ b. (leb a.first p && ltb p (a.first + a.count)) ≡ b → cond b (Some a.key) (key_of rest p) ≡ Some key → (from ≤ p) × (p < v) × (key ≤ 15)) [
      | true ↦ λ b q.
          let s : a.key ≡ key = cc in
          let i = and_parts _ _ b in
          let lo : a.first ≤ p = leb-true _ _ i.0 in
          let hi : p < a.first + a.count = ltb-true _ _ i.1 in
          (omega arith, omega arith, omega arith)
      | false ↦ λ b q. let r = in_order_lem (a.first + a.count) v rest p key t.1 q in let lo : a.first + a.count ≤ p = r.0 in (omega arith, r.1, r.2)
    ]) refl h

-- What the tests of sizes and partitions give.
pub fits_from : (c : Config) (s : List ℕ) → sizes_fit c s ≡ true → partitions_fit c ≡ true → Fits c × (length s ≡ 2048 * c.frames)
fits_from c s e q =
    let a = and_parts (leb 3 c.frames) _ e in
    let b = and_parts (leb c.frames 256) _ a.1 in
    let d = and_parts (leb 2 c.supervisor) _ b.1 in
    let f = and_parts (ltb c.supervisor c.frames) _ d.1 in
    let g = and_parts (leb (1 + (segments c + 31) / 32) c.supervisor) _ f.1 in
    let h = and_parts (ltb c.supervisor c.pages) _ g.1 in
    let i = and_parts (leb c.pages 8192) _ h.1 in
    let few : c.frames ≤ 256 = leb-true _ _ b.0 in
    let low : 2 ≤ c.supervisor = leb-true _ _ d.0 in
    let some : c.supervisor < c.frames = ltb-true _ _ f.0 in
    let room : 1 + (segments c + 31) / 32 ≤ c.supervisor = leb-true _ _ g.0 in
    let more : c.supervisor < c.pages = ltb-true _ _ h.0 in
    let most : c.pages ≤ 8192 = leb-true _ _ i.0 in
    let parts = (and_parts (leb (length c.partitions) 5) _ (and_parts (leb 1 (length c.partitions)) _ q).1).1 in (
      record {
        few = few;
        low = low;
        some = some;
        more = more;
        most = most;
        ordered = q;
        tables = omega arith;
        keys = λ p key k. in_order_lem c.supervisor c.pages c.partitions p key parts k;
      },
      eqb-true _ _ i.1,
    )

-- The segment table.
module _ (c : Config) where
  -- n entries from g on: each of them stands, and nothing else is altered
  pub record Segmented (g n : ℕ) (s t : List ℕ) : Type 0 where
    pub long : length t ≡ length s
    pub stands : (i : ℕ) → g ≤ i → i < g + n → word t (segment_at i) ≡ segment_word c i
    pub kept : (j : ℕ) → (j < segment_at g) ⊎ (segment_at (g + n) ≤ j) → get_or t j 0 ≡ get_or s j 0

  segmented : (g n : ℕ) (s : List ℕ) → segment_at (g + n) ≤ length s → g + n ≤ 256 → Segmented g n s (with_segments c g n s)
  unfolding with_segments
  segmented g zero s h l = record { long = refl; stands = λ i a b. absurd (omega arith); kept = λ j o. refl }
  segmented g (suc n) s h l =
      let v = segment_word c g in
      let put = laws.beside.word_within s (segment_at g) v in
      let pl = put.long in
      let s1 = put_word s (segment_at g) v in
      let rest = segmented (g + 1) n s1 (omega arith) (omega arith) in
      let small : segment_word c g < 2 ^ 32 = elim (ltb g (segments c)) as (λ b. cond b (0xF0000800 + 64 * g) 1 < 2 ^ 32) [ true ↦ omega arith | false ↦ omega arith ] in
      record {
        long = rest.long ∙ pl;
        stands = λ i a b. elim (cases_eq i g) [
          | inl e ↦
              ap (λ x. word (with_segments c (g + 1) n s1) (segment_at x)) e
              ∙ laws.alike.word_alike (with_segments c (g + 1) n s1) s1 (segment_at g) (λ j x y. rest.kept j (inl (omega arith)))
              ∙ laws.same.word_same s (segment_at g) v (omega arith) small ∙ ap (segment_word c) (sym e)
          | inr e ↦ rest.stands i (omega arith) (omega arith)
        ];
        kept = λ j o. elim o [
          | inl x ↦ rest.kept j (inl (omega arith)) ∙ put.kept j (inl x)
          | inr x ↦ rest.kept j (inr (omega arith)) ∙ put.kept j (inr (omega arith))
        ];
      }

  -- the page tables likewise
  pub record Entered (p n : ℕ) (s t : List ℕ) : Type 0 where
    pub long : length t ≡ length s
    pub stands : (i : ℕ) → p ≤ i → i < p + n → half t (entry_at i) ≡ first_entry c i
    pub kept : (j : ℕ) → (j < entry_at p) ⊎ (entry_at (p + n) ≤ j) → get_or t j 0 ≡ get_or s j 0

  entered : (p n : ℕ) (s : List ℕ) → entry_at (p + n) ≤ length s → ((i : ℕ) → first_entry c i < 2 ^ 16) → Entered p n s (with_entries c p n s)
  unfolding with_entries
  entered p zero s h small = record { long = refl; stands = λ i a b. absurd (omega arith); kept = λ j o. refl }
  entered p (suc n) s h small =
      let v = first_entry c p in
      let put = laws.beside.half_within s (entry_at p) v in
      let pl = put.long in
      let s1 = put_half s (entry_at p) v in
      let rest = entered (p + 1) n s1 (omega arith) small in
      record {
        long = rest.long ∙ pl;
        stands = λ i a b. elim (cases_eq i p) [
          | inl e ↦
              ap (λ x. half (with_entries c (p + 1) n s1) (entry_at x)) e
              ∙ laws.alike.half_alike (with_entries c (p + 1) n s1) s1 (entry_at p) (λ j x y. rest.kept j (inl (omega arith)))
              ∙ laws.same.half_same s (entry_at p) v (omega arith) (small p) ∙ ap (first_entry c) (sym e)
          | inr e ↦ rest.stands i (omega arith) (omega arith)
        ];
        kept = λ j o. elim o [
          | inl x ↦ rest.kept j (inl (omega arith)) ∙ put.kept j (inl x)
          | inr x ↦ rest.kept j (inr (omega arith)) ∙ put.kept j (inr (omega arith))
        ];
      }

-- Both tables.
module _ (c : Config) (fit : Fits c) (s : List ℕ) (long : length s ≡ 2048 * c.frames) where
  entry_small : (p : ℕ) → first_entry c p < 2 ^ 16
  entry_small p =
      let a = fit.some in let b = fit.few in
      cond_both (ltb p c.supervisor) (8 * p + 1) (partition_entry (key_of c.partitions p)) (λ n. n < 2 ^ 16)
      (λ t. let l = ltb-true _ _ t in omega arith) (λ _. by_key (key_of c.partitions p) refl)
    where
      by_key : (o : Option ℕ) → key_of c.partitions p ≡ o → partition_entry o < 2 ^ 16
      by_key None e = omega arith
      by_key (Some key) e = let a = (fit.keys p key e).2 in omega arith

  abbrev s1 : List ℕ
  s1 = with_segments c 0 (segment_entries c) s

  segs : Segmented c 0 (segment_entries c) s s1
  segs = let m = fit.most in let a = fit.some in let l = fit.low in segmented c 0 (segment_entries c) s (omega arith) (omega arith)

  ents : Entered c 0 (32 * segments c) s1 (with_tables c s)
  ents =
      let l = segs.long in let t = fit.tables in let a = fit.some in let lo = fit.low in
      entered c 0 (32 * segments c) s1 (omega arith) entry_small

  pub tables_long : length (with_tables c s) ≡ 2048 * c.frames
  tables_long = ents.long ∙ segs.long ∙ long

  pub first_segment : (g : ℕ) → g < segment_entries c → word (with_tables c s) (segment_at g) ≡ segment_word c g
  first_segment g h =
      let l = segment_low c fit g h in
      laws.alike.word_alike (with_tables c s) s1 (segment_at g) (λ j x y. ents.kept j (inl (omega arith)))
      ∙ segs.stands g (omega arith) (omega arith)

  pub first_entry_lem : (p : ℕ) → p < 32 * segments c → half (with_tables c s) (entry_at p) ≡ first_entry c p
  first_entry_lem p h = ents.stands p (omega arith) (omega arith)

  -- every other byte is as it was
  pub tables_kept : (j : ℕ) → (j < segment_at 0) ⊎ (((segment_at (segment_entries c) ≤ j) × (j < entry_at 0)) ⊎ (entry_at (32 * segments c) ≤ j)) → get_or (with_tables c s) j 0 ≡ get_or s j 0
  tables_kept j o =
      let m = fit.most in
      elim o [
        | inl a ↦ ents.kept j (inl (omega arith)) ∙ segs.kept j (inl a)
        | inr b ↦ elim b [
          | inl a ↦ let x = a.0 in ents.kept j (inl a.1) ∙ segs.kept j (inr (omega arith))
          | inr a ↦ ents.kept j (inr (omega arith)) ∙ segs.kept j (inr (omega arith))
        ]
      ]

-- A list of one value, read with this value as the default.
pub get_or-replicate_same : {A : Type 0} (n i : ℕ) (x : A) → get_or (replicate n x) i x ≡ x
get_or-replicate_same n i x = elim (cases_lt i n) [
  | inl l ↦ get_or-replicate n i x x l
  | inr l ↦ get_or_past (replicate n x) i x (let a = length-replicate n x in omega arith)
]

-- The frame table.
own_pages_lem : (f n : ℕ) (rs : List FrameRecord) → f + n ≤ length rs
    → (length (own_pages f n rs) ≡ length rs)
    × ((g : ℕ) → f ≤ g → g < f + n → get_or (own_pages f n rs) g vacant ≡ record { page = g; fixes = 0 })
    × ((g : ℕ) → (g < f) ⊎ (f + n ≤ g) → get_or (own_pages f n rs) g vacant ≡ get_or rs g vacant)
unfolding own_pages
own_pages_lem f zero rs h = (refl, (λ g a b. absurd (omega arith)), λ g o. refl)
own_pages_lem f (suc n) rs h =
    let v : FrameRecord = record { page = f; fixes = 0 } in
    let l = length-set rs f v in
    let r = own_pages_lem (f + 1) n (set rs f v) (omega arith) in (
      r.0 ∙ l,
      (λ g a b. elim (cases_eq g f) [
        | inl e ↦ r.2 g (inl (omega arith)) ∙ ap (λ x. get_or (set rs f v) x vacant) e ∙ get_or-set_same rs f v vacant (omega arith) ∙ ap (λ x. record { page = x; fixes = 0 }) (sym e)
        | inr e ↦ r.1 g (omega arith) (omega arith)
      ]),
      λ g o. elim o [
        | inl x ↦ r.2 g (inl (omega arith)) ∙ get_or-set_other rs f g v vacant (λ e. omega arith)
        | inr x ↦ r.2 g (inr (omega arith)) ∙ get_or-set_other rs f g v vacant (λ e. omega arith)
      ],
    )

module _ (c : Config) (fit : Fits c) where
  abbrev rows : List FrameRecord
  rows = own_pages 0 c.supervisor (replicate 256 vacant)

  all_rows : length {A = FrameRecord} (replicate 256 vacant) ≡ 256
  all_rows = length-replicate {A = FrameRecord} 256 vacant

  rows_are : (length rows ≡ length {A = FrameRecord} (replicate 256 vacant))
      × ((g : ℕ) → 0 ≤ g → g < 0 + c.supervisor → get_or rows g vacant ≡ record { page = g; fixes = 0 })
      × ((g : ℕ) → (g < 0) ⊎ (0 + c.supervisor ≤ g) → get_or rows g vacant ≡ get_or (replicate 256 vacant) g vacant)
  rows_are = own_pages_lem 0 c.supervisor (replicate 256 vacant) (let a = all_rows in let b = fit.some in let d = fit.few in omega arith)

  pub row_vacant : (g : ℕ) → c.supervisor ≤ g → get_or rows g vacant ≡ vacant
  row_vacant g h = rows_are.2 g (inr (omega arith)) ∙ get_or-replicate_same 256 g vacant

  pub no_page_lem : (g : ℕ) → c.supervisor ≤ g → page_in rows g ≡ no_page
  no_page_lem g h = ap (λ (x : FrameRecord). x.page) (row_vacant g h)

  pub no_fixes : (g : ℕ) → c.supervisor ≤ g → fixes_in rows g ≡ 0
  no_fixes g h = ap (λ (x : FrameRecord). x.fixes) (row_vacant g h)

  pub first_table : Table c rows
  first_table = record {
    long = rows_are.0 ∙ all_rows;
    supervisor = λ f h. ap (λ (x : FrameRecord). x.page) (rows_are.1 f (omega arith) (omega arith));
    named = λ f fp ne. absurd (ne (no_page_lem f fp.0));
    unfixed = λ f h. ap (λ (x : FrameRecord). x.fixes) (rows_are.1 f (omega arith) (omega arith));
    past = λ f h. row_vacant f (let a = fit.some in omega arith);
    unused = λ f fp e. no_fixes f fp.0;
    apart = λ f g fp gp e ne. absurd (ne (no_page_lem f fp.0));
  }

-- The policy: the pageable frames, each once.
module _ {P : Type 0} (r : policies.Rules P) (law : policies.Lawful r) where
  returned_are : (f n : ℕ) (m : P) → f + n ≤ 256 → r.good m → ((g : ℕ) → f ≤ g → r.times m g ≡ 0)
      → r.good (returned r f n m) × ((g : ℕ) → f ≤ g → g < f + n → r.times (returned r f n m) g ≡ 1) × ((g : ℕ) → (g < f) ⊎ (f + n ≤ g) → r.times (returned r f n m) g ≡ r.times m g)
  unfolding returned
  returned_are f zero m h good none = (good, (λ g a b. absurd (omega arith)), λ g o. refl)
  returned_are f (suc n) m h good none =
      let m1 = r.return_frame m f false false in
      let free : policies.free r m f ≡ true = and_from _ _ (lt-ltb f 256 (omega arith)) (eq-eqb _ _ (none f (omega arith))) in
      let times : (g : ℕ) → r.times m1 g ≡ cond (eqb g f && policies.free r m f) 1 (r.times m g) = λ g. law.return_times m f g false false good in
      let other : (g : ℕ) → (g ≡ f → ⊥) → r.times m1 g ≡ r.times m g = λ g ne. times g ∙ cond-false _ 1 (r.times m g) (and_left _ _ (ne_eqb g f ne)) in
      let here : r.times m1 f ≡ 1 = times f ∙ cond-true _ 1 (r.times m f) (and_from _ _ (eq-eqb f f refl) free) in
      let rest = returned_are (f + 1) n m1 (omega arith) (law.return_good m f false false good) (λ g a. other g (λ e. omega arith) ∙ none g (omega arith)) in (
        rest.0,
        (λ g a b. elim (cases_eq g f) [
          | inl e ↦ rest.2 g (inl (omega arith)) ∙ ap (r.times m1) e ∙ here
          | inr e ↦ rest.1 g (omega arith) (omega arith)
        ]),
        λ g o. elim o [
          | inl x ↦ rest.2 g (inl (omega arith)) ∙ other g (λ e. omega arith)
          | inr x ↦ rest.2 g (inr (omega arith)) ∙ other g (λ e. omega arith)
        ],
      )

  pub first_holding : (c : Config) (fit : Fits c) (m : P) → r.good m
      → r.good (returned r c.supervisor (c.frames - c.supervisor) (r.clear m))
      × Holding r c (own_pages 0 c.supervisor (replicate 256 vacant)) (returned r c.supervisor (c.frames - c.supervisor) (r.clear m))
  first_holding c fit m good =
      let some = fit.some in
      let few = fit.few in
      let none : (g : ℕ) → r.times (r.clear m) g ≡ 0 = λ g. law.clear_times m g good in
      let k = returned_are c.supervisor (c.frames - c.supervisor) (r.clear m) (omega arith) (law.clear_good m good) (λ g a. none g) in (
        k.0,
        record {
          free = λ f fp e. k.1 f fp.0 (let a = fp.1 in omega arith);
          fixed = λ f fp l. let z = no_fixes c fit f fp.0 in absurd (omega arith);
          other = λ f o. k.2 f (elim o [ inl x ↦ inl x | inr x ↦ inr (omega arith) ]) ∙ none f;
        },
      )

-- The slots.
module _ {S : Type 0} (r : stores.Rules S) (m : S) where
  usable_from : (k : ℕ) (a b : Bool) → ltb k (r.count m) ≡ a → r.bad m k ≡ b → option_map (λ why. r.fault m why k) (cond a (cond b (Some BadSlot) None) (Some NoSuchSlot)) ≡ None → stores.Usable r m k
  usable_from k true true t u e = cc
  usable_from k true false t u e = (ltb-true _ _ t, u)
  usable_from k false b t u e = cc

  or_none : (x y : Option Fault) → option_or x y ≡ None → (x ≡ None) × (y ≡ None)
  or_none None y e = (refl, e)
  or_none (Some f) y e = cc

  pub no_fault : (k n : ℕ) → first_fault r m k n ≡ None → (j : ℕ) → k ≤ j → j < k + n → stores.Usable r m j
  unfolding first_fault
  no_fault k zero e j a b = absurd (omega arith)
  no_fault k (suc n) e j a b =
      let p = or_none (slot_fault r m k) (first_fault r m (k + 1) n) e in
      elim (cases_eq j k) [
        | inl z ↦ subst (stores.Usable r m) (sym z) (usable_from k (ltb k (r.count m)) (r.bad m k) refl refl p.0)
        | inr z ↦ no_fault (k + 1) n p.1 j (omega arith) (omega arith)
      ]
