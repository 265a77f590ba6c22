-- The two page faults, refuted by computing.
use Rattle.std.proofs.Common.{◌≡◌, ℕ, List, [], ◌∷◌, Some, None, Ok, Err, Option, Result, refl}
use Rattle.model.specs.declared.calls.Reply.{Reply}
use Rattle.model.specs.declared.calls.Reply.TheVariants.{Byte, Done}
use Rattle.model.specs.declared.calls.Call.{Call}
use Rattle.model.specs.declared.calls.Call.TheVariants.{Load, Store, Fix, Free, Purge, Settle}
use Rattle.model.specs.declared.calls.Refusal.{Refusal}
use Rattle.model.specs.declared.shape.Request.{Request}
use Rattle.model.specs.Flat.{flat_fix, flat_free, flat_load, flat_store}
use Rattle.model.specs.Refusals.{decode_fix, decode_load, decode_store}
use Rattle.model.specs.Steps.{brought, byte_answer, done_answer, fix, fixing, load, loading, store, storing, worked}
use Rattle.cases.proofs.Computed.{opening}
use Rattle.cases.specs.LosingFaults.{LosingFaults, Refuted, brought_by, by_name, by_name_calls, fixing_by, loading_by, no_forget, no_forget_calls, sound, started, storing_by, three, two, worked_by}
use Rattle.cases.specs.Worked.{Machine, parts}

brought_same : (p key : ℕ) (w : Machine) (o : Option ℕ) → brought_by sound p key w o ≡ brought parts p key w o
brought_same p key w (Some f) = refl
brought_same p key w None = refl

loading_same : (a : ℕ) (w : Machine) (o : Result Request Refusal)
    → loading_by sound a w o ≡ (byte_answer (loading parts a w o).0, (loading parts a w o).1)
loading_same a w (Err why) = refl
loading_same a w (Ok q) = rw (brought_same q.page q.key w q.frame)

storing_same : (a byte : ℕ) (w : Machine) (o : Result Request Refusal)
    → storing_by sound a byte w o ≡ (done_answer (storing parts a byte w o).0, (storing parts a byte w o).1)
storing_same a byte w (Err why) = refl
storing_same a byte w (Ok q) = rw (brought_same q.page q.key w q.frame)

fixing_same : (w : Machine) (o : Result Request Refusal) → fixing_by sound w o ≡ (done_answer (fixing parts w o).0, (fixing parts w o).1)
fixing_same w (Err why) = refl
fixing_same w (Ok q) = rw (brought_same q.page q.key w q.frame)

same : (c : Call) (w : Machine) → worked_by sound c w ≡ worked parts c w
unfolding load store fix
same (Load a key) w = loading_same a w (decode_load w a key)
same (Store a key byte) w = storing_same a byte w (decode_store w a key)
same (Fix p) w = fixing_same w (decode_fix w p)
same (Free p) w = refl
same Purge w = refl
same Settle w = refl

-- two lists of answers that end in different bytes
by_name_apart : ◌≡◌ {A = List (Result Reply Refusal)} (Ok Done ∷ Ok Done ∷ Ok Done ∷ Ok (Byte 0) ∷ Ok (Byte 0) ∷ []) (Ok Done ∷ Ok Done ∷ Ok Done ∷ Ok (Byte 0) ∷ Ok (Byte 7) ∷ []) → ⊥
by_name_apart e = cc

no_forget_apart : ◌≡◌ {A = List (Result Reply Refusal)} (Ok (Byte 0) ∷ Ok (Byte 0) ∷ Ok Done ∷ Ok (Byte 9) ∷ []) (Ok (Byte 0) ∷ Ok (Byte 0) ∷ Ok Done ∷ Ok (Byte 0) ∷ []) → ⊥
no_forget_apart e = cc

by_name_refuted : Refuted by_name two 2 by_name_calls (Ok Done ∷ Ok Done ∷ Ok Done ∷ Ok (Byte 0) ∷ Ok (Byte 0) ∷ []) (Ok Done ∷ Ok Done ∷ Ok Done ∷ Ok (Byte 0) ∷ Ok (Byte 7) ∷ [])
unfolding opening started flat_load flat_store flat_fix flat_free
by_name_refuted = record { answered = refl; wrongly = refl; rightly = refl; flatly = refl; differs = λ e. by_name_apart e }

no_forget_refuted : Refuted no_forget three 3 no_forget_calls (Ok (Byte 0) ∷ Ok (Byte 0) ∷ Ok Done ∷ Ok (Byte 9) ∷ []) (Ok (Byte 0) ∷ Ok (Byte 0) ∷ Ok Done ∷ Ok (Byte 0) ∷ [])
unfolding opening started flat_load flat_store flat_fix flat_free
no_forget_refuted = record { answered = refl; wrongly = refl; rightly = refl; flatly = refl; differs = λ e. no_forget_apart e }

pub losing_faults : LosingFaults
losing_faults = record { same = same; by_name_refuted = by_name_refuted; no_forget_refuted = no_forget_refuted }
