-- What a call's tests have found where they let it pass.
use Rattle.std.proofs.Common.{◌≡◌, ℕ, ◌-◌, ◌*◌, ◌/◌, ◌<◌, Bool, true, false, cond, ◌&&◌, ◌||◌, eqb, ltb, leb, length, Some, None, Ok, Err, Option, Result, sym, refl, ap, ◌∙◌}
use Rattle.std.specs.Option.{ok_or}
use Rattle.std.proofs.lemmas.Bool.{eqb-true, ltb-true}
use Rattle.model.specs.declared.calls.Refusal.{Refusal}
use Rattle.model.specs.declared.calls.Refusal.TheVariants.{Sizes, Key, Addressing, Protection, FixLimit, NotFixed, AllFixed, Tables}
use Rattle.model.specs.declared.shape.Request.{Request}
use Rattle.model.specs.Layout.{entries_are, frames_are, key_of, segment_entries, segments, segments_are}
use Rattle.model.specs.Refusals.{and_then, decode_fix, decode_free, decode_load, decode_purge, decode_settle, decode_store, fixes_of, full, page_key, right_length, room_and_tables, tables_right, unless, where_is}
use Rattle.model.specs.World.{Config, World}

pub chain_ok : {A B : Type 0} (r : Result A Refusal) (next : A → Result B Refusal) (y : B) → and_then r next ≡ Ok y → (x : A) × (r ≡ Ok x) × (next x ≡ Ok y)
chain_ok (Ok x) next y e = (x, refl, e)
chain_ok (Err why) next y e = cc

pub unless_ok : (b : Bool) (why : Refusal) (x : Unit {0}) → unless b why ≡ Ok x → b ≡ true
unless_ok true why x e = refl
unless_ok false why x e = cc

key_cases : (o : Option ℕ) (key : ℕ) (a b : Bool) → cond a (cond b (Err Protection) (ok_or o Addressing)) (Err Addressing) ≡ Ok key → o ≡ Some key
key_cases o key false b e = cc
key_cases o key true true e = cc
key_cases (Some k) key true false e = cc
key_cases None key true false e = cc

pub key_ok : (c : Config) (p key : ℕ) → page_key c p ≡ Ok key → key_of c.partitions p ≡ Some key
key_ok c p key e = key_cases (key_of c.partitions p) key (ltb p c.pages) (ltb p c.supervisor) e

-- A page that a call has reached, with its access key, its frame and right tables.
pub record Reached {T P S : Type 0} (w : World T P S) (p : ℕ) (q : Request) : Type 0 where
  pub long : length w.storage ≡ 2048 * w.config.frames
  pub part : key_of w.config.partitions p ≡ Some q.key
  pub is : q ≡ record { page = p; key = q.key; frame = where_is w p }
  pub tables : tables_right w p q.key (where_is w p) ≡ true

room_cases : (x q : Request) (a b : Bool) → cond a (Err AllFixed) (cond b (Ok x) (Err Tables)) ≡ Ok q → (a ≡ false) × (b ≡ true) × (q ≡ x)
room_cases x q true b e = cc
room_cases x q false true e = (refl, refl, cc)
room_cases x q false false e = cc

table_cases : (x q : Request) (b : Bool) → cond b (Ok x) (Err Tables) ≡ Ok q → (b ≡ true) × (q ≡ x)
table_cases x q true e = (refl, cc)
table_cases x q false e = cc

module _ {T P S : Type 0} (w : World T P S) where
  reached : (p key : ℕ) (q : Request) → right_length w ≡ true → page_key w.config p ≡ Ok key → tables_right w p key (where_is w p) ≡ true
      → q ≡ record { page = p; key = key; frame = where_is w p } → Reached w p q
  reached p key q l k t e =
      let ky : key ≡ q.key = ap (λ (x : Request). x.key) (sym e) in
      record {
        long = eqb-true _ _ l;
        part = key_ok w.config p key k ∙ ap Some ky;
        is = e ∙ ap (λ x. record { page = p; key = x; frame = where_is w p }) ky;
        tables = ap (λ x. tables_right w p x (where_is w p)) (sym ky) ∙ t;
      }

  reach : (p key : ℕ) (q : Request) → right_length w ≡ true → page_key w.config p ≡ Ok key → room_and_tables w p key (where_is w p) ≡ Ok q
      → Reached w p q × (full w (where_is w p) ≡ false)
  reach p key q l k e =
      let c = room_cases (record { page = p; key = key; frame = where_is w p }) q (full w (where_is w p)) (tables_right w p key (where_is w p)) e in
      (reached p key q l k c.1 c.2, c.0)

  pub load_ok : (a key : ℕ) (q : Request) → decode_load w a key ≡ Ok q → Reached w (a / 2048) q × (full w (where_is w (a / 2048)) ≡ false)
  unfolding decode_load
  load_ok a key q e =
      let x = chain_ok (unless (right_length w) Sizes) _ q e in
      let y = chain_ok (unless (leb key 15) Key) _ q x.2 in
      let z = chain_ok (page_key w.config (a / 2048)) _ q y.2 in
      reach (a / 2048) z.0 q (unless_ok (right_length w) Sizes x.0 x.1) z.1 z.2

  pub store_ok : (a key : ℕ) (q : Request) → decode_store w a key ≡ Ok q → Reached w (a / 2048) q × (full w (where_is w (a / 2048)) ≡ false)
  unfolding decode_store
  store_ok a key q e =
      let x = chain_ok (unless (right_length w) Sizes) _ q e in
      let y = chain_ok (unless (leb key 15) Key) _ q x.2 in
      let z = chain_ok (page_key w.config (a / 2048)) _ q y.2 in
      let v = chain_ok (unless (eqb key 0 || eqb key z.0) Protection) _ q z.2 in
      reach (a / 2048) z.0 q (unless_ok (right_length w) Sizes x.0 x.1) z.1 v.2

  pub fix_ok : (p : ℕ) (q : Request) → decode_fix w p ≡ Ok q
      → Reached w p q × (full w (where_is w p) ≡ false) × (fixes_of w.records (where_is w p) < 255)
  unfolding decode_fix
  fix_ok p q e =
      let x = chain_ok (unless (right_length w) Sizes) _ q e in
      let z = chain_ok (page_key w.config p) _ q x.2 in
      let v = chain_ok (unless (ltb (fixes_of w.records (where_is w p)) 255) FixLimit) _ q z.2 in
      let r = reach p z.0 q (unless_ok (right_length w) Sizes x.0 x.1) z.1 v.2 in
      (r.0, r.1, ltb-true _ _ (unless_ok (ltb (fixes_of w.records (where_is w p)) 255) FixLimit v.0 v.1))

  pub free_ok : (p : ℕ) (q : Request) → decode_free w p ≡ Ok q → Reached w p q × (0 < fixes_of w.records (where_is w p))
  unfolding decode_free
  free_ok p q e =
      let x = chain_ok (unless (right_length w) Sizes) _ q e in
      let z = chain_ok (page_key w.config p) _ q x.2 in
      let v = chain_ok (unless (ltb 0 (fixes_of w.records (where_is w p))) NotFixed) _ q z.2 in
      let c = table_cases (record { page = p; key = z.0; frame = where_is w p }) q (tables_right w p z.0 (where_is w p)) v.2 in (
        reached p z.0 q (unless_ok (right_length w) Sizes x.0 x.1) z.1 c.0 c.1,
        ltb-true _ _ (unless_ok (ltb 0 (fixes_of w.records (where_is w p))) NotFixed v.0 v.1),
      )

  pub purge_ok : (x : Unit {0}) → decode_purge w ≡ Ok x → (length w.storage ≡ 2048 * w.config.frames)
      × ((segments_are w.config w.storage 0 (segment_entries w.config) && entries_are w.config w.storage w.records 0 (32 * segments w.config)) ≡ true)
  unfolding decode_purge
  purge_ok x e =
      let y = chain_ok (unless (right_length w) Sizes) _ x e in (
        eqb-true _ _ (unless_ok (right_length w) Sizes y.0 y.1),
        unless_ok (segments_are w.config w.storage 0 (segment_entries w.config) && entries_are w.config w.storage w.records 0 (32 * segments w.config)) Tables x y.2,
      )

  pub settle_ok : (x : Unit {0}) → decode_settle w ≡ Ok x → (length w.storage ≡ 2048 * w.config.frames)
      × (frames_are w.config w.storage w.records w.config.supervisor (w.config.frames - w.config.supervisor) ≡ true)
  unfolding decode_settle
  settle_ok x e =
      let y = chain_ok (unless (right_length w) Sizes) _ x e in (
        eqb-true _ _ (unless_ok (right_length w) Sizes y.0 y.1),
        unless_ok (frames_are w.config w.storage w.records w.config.supervisor (w.config.frames - w.config.supervisor)) Tables x y.2,
      )
