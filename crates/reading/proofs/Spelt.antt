use Rattle.std.proofs.Common.{◌≡◌, ℕ, zero, suc, ◌+◌, ◌-◌, ◌*◌, ◌<◌, ◌≤◌, cond, ltb, List, [], ◌∷◌, ◌++◌, length, Some, None, Option, refl, ap, ◌∙◌, subst, arith}
use Rattle.std.proofs.lemmas.List.{length-append}
use Rattle.reading.specs.declared.row.Fields.{Fields}
use Rattle.reading.specs.Read.{digit, after, further, number, field, fields, either, ending}
use Rattle.reading.specs.Spelling.{Octal, spelt, Spells, Written, ReadsWhatIsWritten}

digit_some : (b : ℕ) (bs : List ℕ) → 48 ≤ b → b ≤ 55 → digit (b ∷ bs) ≡ Some (b - 48, bs)
unfolding digit
digit_some b bs l h = grind arith

digit_none : (b : ℕ) (bs : List ℕ) → b < 48 → digit (b ∷ bs) ≡ None
unfolding digit
digit_none b bs l = grind arith

record Front (bs : List ℕ) (d : ℕ) (cs : List ℕ) : Type 0 where
  b : ℕ
  is : bs ≡ b ∷ cs
  low : 48 ≤ b
  high : b ≤ 55
  value : d ≡ b - 48

digit_front : (bs : List ℕ) (d : ℕ) (cs : List ℕ) → digit bs ≡ Some (d, cs) → Front bs d cs
unfolding digit
digit_front [] d cs e = let z : ⊥ = grind arith in elim z [ ]
digit_front (b ∷ bs) d cs e = record { b = b; is = grind arith; low = grind arith; high = grind arith; value = grind arith }

spelt_ge : (v : ℕ) (ds : List ℕ) → v ≤ spelt v ds
spelt_ge v [] = omega arith
spelt_ge v (b ∷ bs) = omega (arith, spelt_ge (v * 8 + (b - 48)) bs)

further_whole : (k v : ℕ) (ds : List ℕ) (e : ℕ) (cs : List ℕ) → Octal ds → length ds ≤ k → spelt v ds ≤ 65535 → e < 48 → further k v (ds ++ (e ∷ cs)) ≡ Some (spelt v ds, e ∷ cs)
further_whole zero v [] e cs o l w b = refl
further_whole (suc k) v [] e cs o l w b = let n = digit_none e cs b in grind (arith, n)
further_whole zero v (d ∷ ds) e cs o l w b = let z : ⊥ = omega arith in elim z [ ]
further_whole (suc k) v (d ∷ ds) e cs o l w b =
    let n = digit_some d (ds ++ (e ∷ cs)) o.0 o.1 in
    let small : v < 8192 = omega (arith, spelt_ge (v * 8 + (d - 48)) ds) in
    let rest = further_whole k (v * 8 + (d - 48)) ds e cs o.2 (omega arith) w b in
    grind (arith, n, rest)

number_whole : (ds : List ℕ) (n e : ℕ) (cs : List ℕ) → Spells ds n → e < 48 → number (ds ++ (e ∷ cs)) ≡ Some (n, e ∷ cs)
unfolding number
number_whole [] n e cs s b = let z : ⊥ = omega (arith, s.some) in elim z [ ]
number_whole (d ∷ ds) n e cs s b =
    let i : 0 * 8 + (d - 48) ≡ d - 48 = omega arith in
    let v : spelt (0 * 8 + (d - 48)) ds ≡ spelt (d - 48) ds = ap (λ x. spelt x ds) i in
    let m = digit_some d (ds ++ (e ∷ cs)) s.digits.0 s.digits.1 in
    let rest = further_whole 5 (d - 48) ds e cs s.digits.2 (omega (arith, s.few)) (omega (arith, v, s.is, s.within)) b in
    let h = s.is in
    grind (arith, m, rest, v, h)

field_whole : (ds : List ℕ) (n e : ℕ) (cs : List ℕ) → Spells ds n → e < 48 → field (e ∷ []) (ds ++ (e ∷ cs)) ≡ Some (n, cs)
unfolding after
field_whole ds n e cs s b = let m = number_whole ds n e cs s b in grind (arith, m)

fields_whole : (bs cs : List ℕ) (f : Fields) → Written bs f cs → fields bs ≡ Some (f, cs)
fields_whole bs cs f w =
    let t = w.text in
    let a = field_whole w.d0 f.act 32 (w.d1 ++ (32 ∷ (w.d2 ++ (32 ∷ (w.d3 ++ (10 ∷ cs)))))) w.act (omega arith) in
    let u = field_whole w.d1 f.user 32 (w.d2 ++ (32 ∷ (w.d3 ++ (10 ∷ cs)))) w.user (omega arith) in
    let p = field_whole w.d2 f.at 32 (w.d3 ++ (10 ∷ cs)) w.at (omega arith) in
    let q = field_whole w.d3 f.word 10 cs w.word (omega arith) in
    rw t (rw a (rw u (rw p (rw q refl))))

pub record Step {X Y : Type 0} (o : Option (X × List ℕ)) (k : X → List ℕ → Option (Y × List ℕ)) (y : Y) (cs : List ℕ) : Type 0 where
  pub x : X
  pub mid : List ℕ
  pub first : o ≡ Some (x, mid)
  pub second : k x mid ≡ Some (y, cs)

pub step : {X Y : Type 0} (o : Option (X × List ℕ)) (k : X → List ℕ → Option (Y × List ℕ)) (y : Y) (cs : List ℕ) → either o None k ≡ Some (y, cs) → Step o k y cs
step None k y cs e = let z : ⊥ = grind arith in elim z [ ]
step (Some (x, mid)) k y cs e = record { x = x; mid = mid; first = refl; second = e }

record Taken (k v : ℕ) (bs : List ℕ) (n : ℕ) (cs : List ℕ) : Type 0 where
  ds : List ℕ
  text : bs ≡ ds ++ cs
  digits : Octal ds
  few : length ds ≤ k
  is : n ≡ spelt v ds
  within : n ≤ 65535

further_by : (k v : ℕ) (bs : List ℕ) (n : ℕ) (cs : List ℕ) (o : Option (ℕ × List ℕ)) → digit bs ≡ o → v ≤ 65535 → ((w : ℕ) (qs : List ℕ) → w ≤ 65535 → further k w qs ≡ Some (n, cs) → Taken k w qs n cs) → either o (Some (v, bs)) (λ d rest. cond (ltb v 8192) (further k (v * 8 + d) rest) None) ≡ Some (n, cs) → Taken (suc k) v bs n cs
further_by k v bs n cs None p w ih e = record { ds = []; text = grind arith; digits = tt; few = omega arith; is = grind arith; within = grind arith }
further_by k v bs n cs (Some (d, rest)) p w ih e =
    let f = digit_front bs d rest p in
    let small : v < 8192 = grind arith in
    let g : further k (v * 8 + d) rest ≡ Some (n, cs) = grind arith in
    let t = ih (v * 8 + d) rest (omega (arith, f.value, f.high)) g in
    record {
      ds = f.b ∷ t.ds;
      text = f.is ∙ ap (λ x. f.b ∷ x) t.text;
      digits = (f.low, f.high, t.digits);
      few = omega (arith, t.few);
      is = t.is ∙ ap (λ x. spelt (v * 8 + x) t.ds) f.value;
      within = t.within;
    }

further_front : (k v : ℕ) (bs : List ℕ) (n : ℕ) (cs : List ℕ) → v ≤ 65535 → further k v bs ≡ Some (n, cs) → Taken k v bs n cs
further_front zero v bs n cs w e = record { ds = []; text = grind arith; digits = tt; few = omega arith; is = grind arith; within = grind arith }
further_front (suc k) v bs n cs w e = further_by k v bs n cs (digit bs) refl w (λ u qs h g. further_front k u qs n cs h g) e

record Begins (bs : List ℕ) (n : ℕ) (cs : List ℕ) : Type 0 where
  ds : List ℕ
  text : bs ≡ ds ++ cs
  spells : Spells ds n

number_front : (bs : List ℕ) (n : ℕ) (cs : List ℕ) → number bs ≡ Some (n, cs) → Begins bs n cs
unfolding number
number_front bs n cs e =
    let s = step (digit bs) (further 5) n cs e in
    let f = digit_front bs s.x s.mid s.first in
    let t = further_front 5 s.x s.mid n cs (omega (arith, f.value, f.high)) s.second in
    let v : s.x ≡ 0 * 8 + (f.b - 48) = omega (arith, f.value) in
    record {
      ds = f.b ∷ t.ds;
      text = f.is ∙ ap (λ x. f.b ∷ x) t.text;
      spells = record { digits = (f.low, f.high, t.digits); some = omega arith; few = omega (arith, t.few); is = t.is ∙ ap (λ x. spelt x t.ds) v; within = t.within };
    }

after_one : (e : ℕ) (bs cs : List ℕ) → after (e ∷ []) bs ≡ Some cs → bs ≡ e ∷ cs
unfolding after
after_one e [] cs p = let z : ⊥ = grind arith in elim z [ ]
after_one e (b ∷ bs) cs p = grind arith

past_one : (e n m : ℕ) (cs : List ℕ) (o : Option (List ℕ)) → either {Y = Option (ℕ × List ℕ)} (ending {X = Unit {0}} tt o) None (λ _ qs. Some (m, qs)) ≡ Some (n, cs) → (o ≡ Some cs) × (m ≡ n)
past_one e n m cs None p = let z : ⊥ = grind arith in elim z [ ]
past_one e n m cs (Some qs) p = (grind arith, grind arith)

field_front : (e : ℕ) (bs : List ℕ) (n : ℕ) (cs : List ℕ) → field (e ∷ []) bs ≡ Some (n, cs) → Begins bs n (e ∷ cs)
field_front e bs n cs p =
    let s = step (number bs) (λ m qs. either {Y = Option (ℕ × List ℕ)} (ending {X = Unit {0}} tt (after (e ∷ []) qs)) None (λ _ rest. Some (m, rest))) n cs p in
    let q = past_one e n s.x cs (after (e ∷ []) s.mid) s.second in
    let b = number_front bs s.x s.mid s.first in
    let r = after_one e s.mid cs q.0 in
    let P : ℕ → Type 0 = λ x. Spells b.ds x in
    record { ds = b.ds; text = b.text ∙ ap (λ x. b.ds ++ x) r; spells = subst P q.1 b.spells }

joined : (bs m0 m1 m2 m3 : List ℕ) (a u p w : ℕ) → Begins bs a (32 ∷ m0) → Begins m0 u (32 ∷ m1) → Begins m1 p (32 ∷ m2) → Begins m2 w (10 ∷ m3) → Written bs (record { act = a; user = u; at = p; word = w }) m3
joined bs m0 m1 m2 m3 a u p w b0 b1 b2 b3 =
    let t0 = b0.text in
    let t1 = b1.text in
    let t2 = b2.text in
    let t3 = b3.text in
    record {
      d0 = b0.ds;
      d1 = b1.ds;
      d2 = b2.ds;
      d3 = b3.ds;
      text = cc;
      act = b0.spells;
      user = b1.spells;
      at = b2.spells;
      word = b3.spells;
    }

settled : (bs m cs : List ℕ) (g f : Fields) → Written bs g m → ◌≡◌ {A = Option (Fields × List ℕ)} (Some (g, m)) (Some (f, cs)) → Written bs f cs
settled bs m cs g f w e =
    let p : ◌≡◌ {A = Fields × List ℕ} (g, m) (f, cs) = grind arith in
    let P : Fields × List ℕ → Type 0 = λ q. Written bs q.0 q.1 in
    subst P p w

fields_front : (bs cs : List ℕ) (f : Fields) → fields bs ≡ Some (f, cs) → Written bs f cs
fields_front bs cs f e =
    let s0 = step (field (32 ∷ []) bs) _ f cs e in
    let s1 = step (field (32 ∷ []) s0.mid) _ f cs s0.second in
    let s2 = step (field (32 ∷ []) s1.mid) _ f cs s1.second in
    let s3 = step (field (10 ∷ []) s2.mid) _ f cs s2.second in
    let b0 = field_front 32 bs s0.x s0.mid s0.first in
    let b1 = field_front 32 s0.mid s1.x s1.mid s1.first in
    let b2 = field_front 32 s1.mid s2.x s2.mid s2.first in
    let b3 = field_front 10 s2.mid s3.x s3.mid s3.first in
    settled bs s3.mid cs (record { act = s0.x; user = s1.x; at = s2.x; word = s3.x }) f
    (joined bs s0.mid s1.mid s2.mid s3.mid s0.x s1.x s2.x s3.x b0 b1 b2 b3)
    s3.second

pub reads_what_is_written : ReadsWhatIsWritten
unfolding ReadsWhatIsWritten
reads_what_is_written bs cs f = (fields_front bs cs f, fields_whole bs cs f)

-- a row takes at least its newline
pub fields_shorter : (bs cs : List ℕ) (f : Fields) → fields bs ≡ Some (f, cs) → length cs < length bs
fields_shorter bs cs f e = let t = (fields_front bs cs f e).text in grind (arith, t, length-append)
