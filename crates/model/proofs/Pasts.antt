-- A past goes on by a call.
use Rattle.std.proofs.Common.{◌≡◌, List, [], ◌∷◌, ◌++◌, sym, refl, ap, ◌∙◌, subst, ap₂, subst₂}
use Rattle.model.specs.Machine.{Answer, Call, Sense, State, sense, carried, call, replay, fresh}
use Rattle.model.specs.Laws.{Did, Continues, Happens, IfDenied, RunBounded, Stepwise}
use Rattle.model.proofs.Laws.{denied_unchanged, run_bounded}
use Rattle.model.proofs.Stepwise.{stepwise}

more_answers : (s : State) (p : List Call) (k : Call) → (replay s (p ++ (k ∷ []))).0 ≡ (replay s p).0 ++ ((call (replay s p).1 k).0 ∷ [])
more_answers s [] k = refl
more_answers s (j ∷ p) k = ap (◌∷◌ (call s j).0) (more_answers (call s j).1 p k)

more_state : (s : State) (p : List Call) (k : Call) → (replay s (p ++ (k ∷ []))).1 ≡ (call (replay s p).1 k).1
more_state s [] k = refl
more_state s (j ∷ p) k = more_state (call s j).1 p k

pub continues : (s : State) (k : Call) (x : Answer) (t : State) → Did s k x t → Continues s k x t
continues s k x t did c p xs past =
    record {
      answers =
          ap₂ ◌++◌ past.answers (ap (λ (y : Answer). y ∷ []) (did.answer ∙ ap (λ (z : State). (call z k).0) past.state))
          ∙ sym (more_answers (fresh c) p k);
      state = did.after ∙ (ap (λ (z : State). (call z k).1) past.state ∙ sym (more_state (fresh c) p k));
    }

-- a call with what the contracts say of it
pub made : (s : State) (k : Call) (x : Answer) (t : State) → Did s k x t → Happens s k x t
made s k x t d =
    record {
      did = d;
      past = continues s k x t d;
      unchanged = subst₂ (λ (y : Answer) (z : State). IfDenied y (z ≡ s)) (sym d.answer) (sym d.after) (denied_unchanged s k);
      bounded = subst (λ (y : Answer). RunBounded k y) (sym d.answer) (run_bounded s k);
      stepwise = subst₂ (λ (y : Answer) (z : State). Stepwise s k y z) (sym d.answer) (sym d.after) (stepwise s k);
    }

pub did_sense : (s : State) (k : Call) (m : Sense) (x : Answer) (t : State) → m ≡ sense k → x ≡ (carried s m).0 → t ≡ (carried s m).1 → Did s k x t
did_sense s k m x t e h g = record { answer = h ∙ ap (λ (n : Sense). (carried s n).0) e; after = g ∙ ap (λ (n : Sense). (carried s n).1) e }
