-- The page fault keeps the machine's own parts, whatever main storage holds; and the frame that is taken is a pageable one.
use Rattle.std.proofs.Common.{◌≡◌, ℕ, ◌-◌, ◌*◌, ◌/◌, ◌<◌, ◌≤◌, Bool, true, false, cond, not, eqb, ltb, List, length, get_or, set, Some, None, Option, sym, refl, ap, ◌∙◌, subst, inl, inr, arith}
use Rattle.std.proofs.lemmas.List.{get_or-set_same, get_or-set_other, length-set}
use Rattle.std.proofs.lemmas.Bool.{and_from, and_left, cases_eq, cases_lt, cond-false, cond-true, eq-eqb, eqb-false, eqb-true, false≢true, le-leb, lt-ltb, ltb-false, ne_eqb, not-false, not-true}
use Rattle.frames.specs.Keys.{access_of, changed}
use Rattle.frames.specs.Policy as policies
use Rattle.model.specs.declared.shape.FrameRecord.{FrameRecord}
use Rattle.model.specs.Law.{Consistent, Fits, Holding, Keyed, Pageable, Paired, Slots, Table}
use Rattle.model.specs.Layout.{fixed_in, fixes_in, key_of, no_page, page_in}
use Rattle.model.specs.Steps.{chosen, emptied, emptying, faulted, put_out, taken, taken_frame, taking}
use Rattle.model.specs.World.{Config, LawfulParts, Parts, World}
use Rattle.model.proofs.Find.{counted_room}
use Rattle.model.proofs.Own.{access_off, fixes_kept, holding_same, in_keys, in_table, keyed_keys, keyed_put, page_here, page_there, real_page, slots_put, table_put, taken_alike}
use Rattle.model.proofs.Place.{frame_fits}
use Rattle.storage.specs.Bytes.{frame}
use Rattle.storage.specs.Over.{laws}

-- All of the machine's own parts but the policy.
pub record Body {T P S : Type 0} (r : Parts T P S) (c : Config) (ks : List ℕ) (rs : List FrameRecord) (t : T) (st : S) : Type 0 where
  pub good_translator : r.translator.good t
  pub good_store : r.store.good st
  pub table : Table c rs
  pub keyed : Keyed c rs ks
  pub paired : Paired r.translator c rs t
  pub slots : Slots r.store c st

abbrev pub BodyOf : {T P S : Type 0} → Parts T P S → World T P S → Type 0
BodyOf r w = Body r w.config w.keys w.records w.translator w.store

pub body : {T P S : Type 0} (r : Parts T P S) (w : World T P S) → Consistent r w → BodyOf r w
body r w k = record {
  good_translator = k.good.translator;
  good_store = k.good.store;
  table = k.table;
  keyed = k.keyed;
  paired = k.paired;
  slots = k.slots;
}

pub whole : {T P S : Type 0} (r : Parts T P S) (w : World T P S) → Fits w.config → BodyOf r w → r.policy.good w.policy
    → Holding r.policy w.config w.records w.policy → Consistent r w
whole r w fit b g h = record {
  good = record { translator = b.good_translator; policy = g; store = b.good_store };
  fits = fit;
  table = b.table;
  keyed = b.keyed;
  holding = h;
  paired = b.paired;
  slots = b.slots;
}

module _ {T P S : Type 0} (r : Parts T P S) (law : LawfulParts r) (c : Config) (fit : Fits c) where
  -- other keys, with the same access keys
  pub body_keys : (ks new : List ℕ) (rs : List FrameRecord) (t : T) (st : S) → Body r c ks rs t st → length new ≡ length ks
      → ((g : ℕ) → access_of (get_or new g 0) ≡ access_of (get_or ks g 0)) → Body r c new rs t st
  body_keys ks new rs t st b l same = record {
    good_translator = b.good_translator;
    good_store = b.good_store;
    table = b.table;
    paired = b.paired;
    slots = b.slots;
    keyed = keyed_keys c fit rs ks b.keyed new l same;
  }

  -- the slot of a partition page
  pub slot_of : (p key : ℕ) → key_of c.partitions p ≡ Some key → p - c.supervisor < c.pages - c.supervisor
  slot_of p key e = let k = fit.keys p key e in let a = k.0 in let b = k.1 in omega arith

  module _ (ks : List ℕ) (rs : List FrameRecord) (t : T) (st : S) (b : Body r c ks rs t st) (f : ℕ) (fp : Pageable c f) where
    fl : f < length rs
    fl = in_table c fit rs b.table f fp.1

    -- the store after a page of f is put out
    pub body_out : (bytes : List ℕ) (q key : ℕ) → key_of c.partitions q ≡ Some key → length bytes ≡ 2048
        → Body r c ks rs t (put_out r.store st (q - c.supervisor) bytes)
    body_out bytes q key e l =
        let k = slots_put r.store law.store c st b.good_store b.slots (q - c.supervisor) bytes (slot_of q key e) l in
        record {
          good_translator = b.good_translator;
          table = b.table;
          keyed = b.keyed;
          paired = b.paired;
          good_store = k.1;
          slots = k.0;
        }

    -- f loses its page, whose pairs are forgotten
    pub body_vacate : fixes_in rs f ≡ 0 → (page_in rs f ≡ no_page → ⊥)
        → Body r c ks (set rs f (record { page = no_page; fixes = fixes_in rs f })) (r.translator.forget t (page_in rs f)) st
    body_vacate unfixed ne =
        let v : FrameRecord = record { page = no_page; fixes = fixes_in rs f } in
        record {
          good_translator = law.translator.forget_good t (page_in rs f) b.good_translator;
          good_store = b.good_store;
          slots = b.slots;
          table = table_put c fit rs b.table f v fp (λ z. absurd (z refl)) (λ _. unfixed) (λ z. absurd (z refl));
          keyed = keyed_put c fit rs ks b.keyed f v fl (λ key e. absurd (real_page c fit no_page key e refl));
          paired = record {
            words = law.translator.forget_controls t (page_in rs f) b.good_translator ∙ b.paired.words;
            each = λ p start h.
                let e = b.paired.each p start (law.translator.forget_adds_none t (page_in rs f) p start b.good_translator h) in
                let other : e.0 ≡ f → ⊥ = λ z.
                let same : page_in rs f ≡ p = ap (page_in rs) (sym z) ∙ e.2 in
                false≢true (sym (law.translator.forget_ends t (page_in rs f) start b.good_translator) ∙ subst (λ x. r.translator.has_pair (r.translator.forget t (page_in rs f)) x start ≡ true) (sym same) h) in
                (e.0, e.1, page_there rs f v e.0 other ∙ e.2, e.3, e.4);
          };
        }

    -- a frame without a page gets one that no frame has
    pub body_connect : (p key : ℕ) → key_of c.partitions p ≡ Some key → page_in rs f ≡ no_page
        → ((g : ℕ) → Pageable c g → page_in rs g ≡ p → ⊥)
        → Body r c (set ks f (16 * key)) (set rs f (record { page = p; fixes = fixes_in rs f })) t st
    body_connect p key part none absent =
        let v : FrameRecord = record { page = p; fixes = fixes_in rs f } in
        let kl = in_keys c fit rs ks b.keyed f fp.1 in
        record {
          good_translator = b.good_translator;
          good_store = b.good_store;
          slots = b.slots;
          table = table_put c fit rs b.table f v fp (λ _. (key, part)) (λ z. absurd (real_page c fit p key part z)) (λ _ g gp gf e. absent g gp e);
          keyed = record {
            long = length-set ks f (16 * key) ∙ b.keyed.long;
            access = λ g y gp e. elim (cases_eq g f) [
              | inl q ↦
                  let pg : page_in (set rs f v) g ≡ p = ap (page_in (set rs f v)) q ∙ page_here rs f v fl in
                  let both : Some key ≡ Some y = sym part ∙ ap (key_of c.partitions) (sym pg) ∙ e in
                  let ky : key ≡ y = cc in
                  ap (λ x. access_of (get_or (set ks f (16 * key)) x 0)) q ∙ ap access_of (get_or-set_same ks f (16 * key) 0 kl) ∙ (let z : 16 * key / 16 ≡ key = omega arith in z) ∙ ky
              | inr q ↦ ap access_of (get_or-set_other ks f g (16 * key) 0 q) ∙ b.keyed.access g y gp (ap (key_of c.partitions) (sym (page_there rs f v g q)) ∙ e)
            ];
          };
          paired = record {
            words = b.paired.words;
            each = λ q start h.
                let e = b.paired.each q start h in
                let other : e.0 ≡ f → ⊥ = λ z.
                let same : q ≡ no_page = sym e.2 ∙ ap (page_in rs) z ∙ none in
                let qv = e.3 in let m = fit.most in omega arith in
                (e.0, e.1, page_there rs f v e.0 other ∙ e.2, e.3, e.4);
          };
        }

-- What Take hands over once not every pageable frame is fixed.
pub record Handed {P : Type 0} (r : policies.Rules P) (c : Config) (rs : List FrameRecord) (m left : P) (f : ℕ) : Type 0 where
  pub pageable : Pageable c f
  pub unfixed : fixes_in rs f ≡ 0
  pub again : (g : ℕ) → r.times (r.enter left f) g ≡ r.times m g

module _ {P : Type 0} (r : policies.Rules P) (law : policies.Lawful r) (c : Config) (fit : Fits c) (rs : List FrameRecord) (m : P) (good : r.good m)
    (h : Holding r c rs m) (room : fixed_in rs c.supervisor (c.frames - c.supervisor) ≡ c.frames - c.supervisor → ⊥) where
  one_held : (f : ℕ) → r.times m f ≡ 1 → Pageable c f × (fixes_in rs f ≡ 0)
  one_held f e = elim (cases_lt f c.supervisor) [
    | inl l ↦ let z = h.other f (inl l) in absurd (omega arith)
    | inr l ↦ elim (cases_lt f c.frames) [
      | inr n ↦ let z = h.other f (inr n) in absurd (omega arith)
      | inl n ↦ (
        (l, n),
        elim (cases_eq (fixes_in rs f) 0) [
          | inl z ↦ z
          | inr z ↦ let q = h.fixed f (l, n) (omega arith) in absurd (omega arith)
        ],
      )
    ]
  ]

  some_held : (g : ℕ) × (r.times m g ≡ 1)
  some_held =
      let k = counted_room (λ g. ltb 0 (fixes_in rs g)) c.supervisor (c.frames - c.supervisor) room in
      let a = k.1 in
      let b = k.2 in
      let l = fit.some in
      let none : fixes_in rs k.0 ≤ 0 = ltb-false 0 (fixes_in rs k.0) k.3 in
      (k.0, h.free k.0 (a, omega arith) (omega arith))

  pub handed_over : (keys : List ℕ) (o : Option ℕ) (left : P) → r.good left → policies.Picks r m left o → Handed r c rs m left (chosen c.supervisor c.frames o)
  handed_over keys None left gl picks = let k = some_held in let z = picks.0 k.0 in let e = k.1 in absurd (omega arith)
  handed_over keys (Some f) left gl picks =
      let k = one_held f picks.0 in
      let fp = k.0 in
      let is : chosen c.supervisor c.frames (Some f) ≡ f = cond-true _ f c.supervisor (and_from _ _ (le-leb _ _ fp.0) (lt-ltb _ _ fp.1)) in
      let gone : r.times left f ≡ 0 = picks.1 f ∙ cond-true _ 0 (r.times m f) (eq-eqb f f refl) in
      let f256 : f < 256 = let a = fp.1 in let b = fit.few in omega arith in
      let free : policies.free r left f ≡ true = and_from _ _ (lt-ltb f 256 f256) (eq-eqb _ _ gone) in
      subst (Handed r c rs m left) (sym is) (record {
        pageable = fp;
        unfixed = k.1;
        again = λ g. law.enter_times left f g gl ∙ elim (cases_eq g f) [
          | inl e ↦ cond-true _ 1 (r.times left g) (and_from _ _ (eq-eqb g f e) free) ∙ sym (ap (r.times m) e ∙ picks.0)
          | inr e ↦ cond-false _ 1 (r.times left g) (and_left _ _ (ne_eqb g f e)) ∙ picks.1 g ∙ cond-false _ 0 (r.times m g) (ne_eqb g f e)
        ];
      })

  -- there is one, and it is the frame chosen
  pub handed_some : (o : Option ℕ) (left : P) → policies.Picks r m left o → o ≡ Some (chosen c.supervisor c.frames o)
  handed_some None left picks = let k = some_held in let z = picks.0 k.0 in let e = k.1 in absurd (omega arith)
  handed_some (Some f) left picks =
      let fp = (one_held f picks.0).0 in
      sym (ap Some (cond-true _ f c.supervisor (and_from _ _ (le-leb _ _ fp.0) (lt-ltb _ _ fp.1))))

-- The whole fault.
pub record Brought {T P S : Type 0} (r : Parts T P S) (p : ℕ) (w : World T P S) (f : ℕ) (next : World T P S) : Type 0 where
  pub consistent : Consistent r next
  pub pageable : Pageable next.config f
  pub has : page_in next.records f ≡ p
  pub same_config : next.config ≡ w.config

module _ {T P S : Type 0} (r : Parts T P S) (law : LawfulParts r) (w : World T P S) (k : Consistent r w) (p key : ℕ)
    (part : key_of w.config.partitions p ≡ Some key) (absent : (g : ℕ) → Pageable w.config g → page_in w.records g ≡ p → ⊥)
    (room : fixed_in w.records w.config.supervisor (w.config.frames - w.config.supervisor) ≡ w.config.frames - w.config.supervisor → ⊥)
    (long : length w.storage ≡ 2048 * w.config.frames) where
  abbrev pub the_frame : ℕ
  the_frame = taken_frame r w

  pub handed_to : Handed r.policy w.config w.records w.policy (taking r w).left the_frame
  handed_to =
      handed_over r.policy law.policy w.config k.fits w.records w.policy k.good.policy k.holding room w.keys (taking r w).frame (taking r w).left
      (law.policy.take_good w.policy w.keys k.good.policy) (law.policy.take_picks w.policy w.keys k.good.policy)

  pub taken_body : BodyOf r (taken r w)
  taken_body =
      let kept = law.policy.take_keys w.policy w.keys k.good.policy in
      body_keys r law w.config k.fits w.keys (taking r w).keys w.records w.translator w.store (body r w k) kept.long (taken_alike access_of access_off w.keys (taking r w).keys kept)

  frame_long : length (frame w.storage the_frame) ≡ 2048
  frame_long = laws.pages.page_long w.storage (2048 * the_frame) (frame_fits w.config k.fits w.storage long the_frame handed_to.pageable.1)

  -- the frame emptied, by whether it has a page and whether it was changed
  pub emptied_body : (occupied dirty : Bool) → not (eqb (page_in w.records the_frame) no_page) ≡ occupied
      → BodyOf r (emptying r occupied dirty the_frame (page_in w.records the_frame) (taken r w))
      × (page_in (emptying r occupied dirty the_frame (page_in w.records the_frame) (taken r w)).records the_frame ≡ no_page)
      × ((g : ℕ) → (g ≡ the_frame → ⊥) → page_in (emptying r occupied dirty the_frame (page_in w.records the_frame) (taken r w)).records g ≡ page_in w.records g)
      × ((g : ℕ) → fixes_in (emptying r occupied dirty the_frame (page_in w.records the_frame) (taken r w)).records g ≡ fixes_in w.records g)
  emptied_body false dirty e = (taken_body, eqb-true _ _ (not-false _ e), (λ g ne. refl), λ g. refl)
  emptied_body true dirty e =
      let f = the_frame in
      let h = handed_to in
      let ne : page_in w.records f ≡ no_page → ⊥ = eqb-false _ _ (not-true _ e) in
      let v : FrameRecord = record { page = no_page; fixes = fixes_in w.records f } in
      let fl = in_table w.config k.fits w.records k.table f h.pageable.1 in
      let named = k.table.named f h.pageable ne in
      let b1 = taken_body in
      let b2 : Body r w.config (taking r w).keys w.records w.translator (cond dirty (put_out r.store w.store (page_in w.records f - w.config.supervisor) (frame w.storage f)) w.store) =
      elim dirty as (λ d. Body r w.config (taking r w).keys w.records w.translator (cond d (put_out r.store w.store (page_in w.records f - w.config.supervisor) (frame w.storage f)) w.store)) [
        | true ↦ body_out r law w.config k.fits (taking r w).keys w.records w.translator w.store b1 f h.pageable (frame w.storage f) (page_in w.records f) named.0 named.1 frame_long
        | false ↦ b1
      ] in (
        body_vacate r law w.config k.fits (taking r w).keys w.records w.translator _ b2 f h.pageable h.unfixed ne,
        page_here w.records f v fl,
        page_there w.records f v,
        fixes_kept w.records f v refl,
      )

  pub faulted_own : Brought r p w the_frame (faulted r the_frame p key w)
  faulted_own =
      let f = the_frame in
      let h = handed_to in
      let w1 = emptied r f (taken r w) in
      let e = emptied_body (not (eqb (page_in w.records f) no_page)) (changed (get_or (taking r w).keys f 0)) refl in
      let v : FrameRecord = record { page = p; fixes = fixes_in w1.records f } in
      let fl = in_table w.config k.fits w1.records e.0.table f h.pageable.1 in
      let gone : (g : ℕ) → Pageable w.config g → page_in w1.records g ≡ p → ⊥ = λ g gp is. elim (cases_eq g f) [
        | inl q ↦ real_page w.config k.fits p key part (sym is ∙ ap (page_in w1.records) q ∙ e.1)
        | inr q ↦ absent g gp (sym (e.2 g q) ∙ is)
      ] in
      let b = body_connect r law w.config k.fits w1.keys w1.records w1.translator w1.store e.0 f h.pageable p key part e.1 gone in
      let fixes : (g : ℕ) → fixes_in (set w1.records f v) g ≡ fixes_in w.records g = λ g. fixes_kept w1.records f v refl g ∙ e.3 g in
      record {
        consistent = whole r (faulted r f p key w) k.fits b
            (law.policy.enter_good (taking r w).left f (law.policy.take_good w.policy w.keys k.good.policy))
            (holding_same r.policy w.config w.records (set w1.records f v) w.policy (r.policy.enter (taking r w).left f) k.holding h.again fixes);
        pageable = h.pageable;
        has = page_here w1.records f v fl;
        same_config = refl;
      }
