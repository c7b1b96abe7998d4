-- Fields put one behind another from bit 0 on leave their stored form, and the bytes behind it as they were (`put_encode`).
use Prim.Native.Nat.{ℕ, ◌+◌, ◌-◌, ◌*◌, ◌^◌, ◌≤◌, ◌<◌}
use mathlib.Core.Path.{◌≡◌, refl, sym, ap, ap₂, ◌∙◌}
use mathlib.Core.List.{List, [], ◌∷◌, ◌++◌, map, map-append}
use native.Mathlib.Nat.{add_assoc, add-zero, zero-add, mul-zero}
use native.Mathlib.Numerals.{add-one}
use native.Mathlib.Omega.{arith}
use lib.ListN.{length, take, drop, get_or}
use lib.Seq.{drop-drop, drop-append-add, take-suc, length-take-le}
use lib.Dec.{lit<}
use lib.Pow.{pow-add}
use Rattle.rules.specs.Lists.{overwritten}
use Rattle.rules.specs.Bits.{first_bits, Field, bits_in, spelled, bytes_for, bytes_of, packed, encode}
use Rattle.rules.specs.StoredForm.{field, table_fields}
use Rattle.bits.specs.Writing.{Bytes, Fit, written, put_at, put_all}
use Rattle.bits.proofs.Shifts.{append_lt}
use Rattle.bits.proofs.Bytes.{drop_bytes}
use Rattle.bits.proofs.Fields.{first_append, first_packed, bytes_for_ge, bytes_for_mono, length_packed}
use Rattle.bits.proofs.Encoding.{bits_in_table, length_encode}

-- ---- one field

written_none : (d : List ℕ) → written d 0 0 ≡ d
unfolding written packed bytes_of bytes_for
written_none d = refl

first_written : (d : List ℕ) (p v : ℕ) → Bytes d → v < 2 ^ p → first_bits (written d p v) p ≡ v
unfolding written
first_written d p v hd h =
    first_append (packed p v) (drop (bytes_for p) d) p (drop_bytes (bytes_for p) d hd) (rw length_packed (bytes_for_ge p))
    ∙ first_packed p v h

drop_written : (d : List ℕ) (p q v : ℕ) → p ≤ q → drop (bytes_for q) (written d p v) ≡ drop (bytes_for q) d
unfolding written
drop_written d p q v h =
    let m : ℕ = bytes_for q - bytes_for p in
    let e : bytes_for q ≡ bytes_for p + m = omega (arith, bytes_for_mono p q h) in
    rw e
    (ap (λ (l : ℕ). drop (l + m) (packed p v ++ drop (bytes_for p) d)) (sym (length_packed p v))
    ∙ drop-append-add (packed p v) (drop (bytes_for p) d) m ∙ drop-drop m (bytes_for p) d)

pub put_written : (d : List ℕ) (p v k x : ℕ) → Bytes d → v < 2 ^ p → put_at (written d p v) p k x ≡ written d (p + k) (v * 2 ^ k + x)
unfolding put_at
put_written d p v k x hd h =
    rw (first_written d p v hd h)
    (unfold written in ap (λ (l : List ℕ). packed (p + k) (v * 2 ^ k + x) ++ l) (drop_written d p (p + k) v (omega arith)))

-- ---- fields one behind another

put_all_written : (fs : List Field) (d : List ℕ) (p v : ℕ) → Bytes d → v < 2 ^ p → Fit fs
    → put_all (written d p v) p fs ≡ written d (p + bits_in fs) (v * 2 ^ bits_in fs + spelled fs)
unfolding put_all bits_in spelled
put_all_written [] d p v hd h fit = ap₂ (written d) (sym (add-zero p)) (omega arith)
put_all_written (f ∷ fs) d p v hd h fit =
    let k : ℕ = f.width in
    ap (λ (l : List ℕ). put_all l (p + k) fs) (put_written d p v k f.value hd h)
    ∙ put_all_written fs d (p + k) (v * 2 ^ k + f.value) hd (append_lt p k v f.value h fit.0) fit.1
    ∙ ap₂ (written d) (add_assoc p k (bits_in fs)) (rw pow-add (omega arith))

pub put_encode : (fs : List Field) (d : List ℕ) → Bytes d → Fit fs → put_all d 0 fs ≡ overwritten d (encode fs)
unfolding encode written overwritten
put_encode fs d hd fit =
    ap (λ (l : List ℕ). put_all l 0 fs) (sym (written_none d))
    ∙ put_all_written fs d 0 0 hd (lit< tt) fit
    ∙ ap₂ (written d) (zero-add (bits_in fs)) (omega arith)
    ∙ ap (λ (n : ℕ). encode fs ++ drop n d) (sym (length_encode fs))

pub put_all_append : (fs gs : List Field) (d : List ℕ) (p : ℕ) → put_all d p (fs ++ gs) ≡ put_all (put_all d p fs) (p + bits_in fs) gs
unfolding put_all bits_in
put_all_append [] gs d p = ap (λ (x : ℕ). put_all d x gs) (sym (add-zero p))
put_all_append (f ∷ fs) gs d p =
    put_all_append fs gs (put_at d p f.width f.value) (p + f.width)
    ∙ ap (λ (x : ℕ). put_all (put_all (put_at d p f.width f.value) (p + f.width) fs) x gs) (add_assoc p f.width (bits_in fs))

-- ---- the entries of a table, one behind another

pub put_none : (d t : List ℕ) (at w : ℕ) → d ≡ put_all d at (table_fields w (take 0 t))
unfolding table_fields put_all
put_none d t at w = refl

pub put_empty : {A : Type 0} (d : List ℕ) (f : A → ℕ) (t : List A) (at w : ℕ) → length t ≡ 0
    → (at ≡ at + w * length t) × (d ≡ put_all d at (table_fields w (map f t)))
put_empty d f [] at w e = (omega (arith, mul-zero w), put_none d [] at w)
put_empty d f (x ∷ t) at w e = absurd (omega arith)

pub put_step : (d t : List ℕ) (at w i : ℕ) → i < length t
    → put_at (put_all d at (table_fields w (take i t))) (at + w * i) w (get_or t i 0) ≡ put_all d at (table_fields w (take (i + 1) t))
unfolding table_fields
put_step d t at w i h =
    let fs : List Field = table_fields w (take i t) in
    let f : Field = field w (get_or t i 0) in
    let l : bits_in fs ≡ w * i = bits_in_table w (take i t) ∙ ap (λ (x : ℕ). w * x) (length-take-le i t (omega arith)) in
    sym
    (ap (λ (x : List ℕ). put_all d at (table_fields w x)) (ap (λ (n : ℕ). take n t) (add-one i) ∙ take-suc t i 0 h)
    ∙ ap (put_all d at) (map-append (field w) (take i t) (get_or t i 0 ∷ []))
    ∙ put_all_append fs (f ∷ []) d at
    ∙ ap (λ (x : ℕ). put_all (put_all d at fs) (at + x) (f ∷ [])) l
    ∙ (unfold put_all in refl))
