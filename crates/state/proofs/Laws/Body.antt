-- The bytes of a machine and the machine of bytes: each undoes the other where what stands for nothing is 0. Assumes nothing.
use mathlib.Core.Path.{◌≡◌, refl, ap, ap₂, sym, subst, ◌∙◌}
use mathlib.Core.Bool.{Bool, false}
use mathlib.Core.List.{List, [], ◌∷◌, ◌++◌, append_assoc, append-nil}
use Prim.Native.Nat.{ℕ, zero, suc, ◌+◌, ◌-◌, ◌≤◌, ◌<◌}
use native.Mathlib.Omega.{arith}
use borrow.Rule.Slice.PartMut.{put_mid}
use lib.ListN.{length, get_or, take, drop, set, replicate, length-append, length-replicate, length-take, length-drop, drop_of_length-le, take-append-drop}
use lib.Seq.{take_at, drop_at, drop-drop, take-append_seam, drop-append_seam, take-add, drop-cons, get_or-take, get_or-drop}
use Rattle.translation.specs.Bits.{has, nibble}
use Rattle.machine.specs.Settings.{Settings, settings_of}
use Rattle.machine.specs.State.{Public, Machine, fresh}
use Rattle.state.specs.View.{state_length, head, padded, options_of, high_latches, added, body, given, state_of, at, view, IsState}
use Rattle.machine.proofs.Laws.Bounds.{get_or_zeros}
use Rattle.translation.proofs.Lists.{listed, take_listed, length_part}
use Rattle.state.proofs.Laws.Flags.{flags_full, flags-mouse, flags-command, flags-terr, flags-perr, flags-breaks, flags-locked, flags_below}
use Rattle.machine.proofs.Laws.Bits.{flags-byte, nibble_0, nibble_1, nibble_2, nibble_3, latches_below, latches-byte}
use Rattle.machine.proofs.Laws.Bits.{nibble-again, high_latches-again}
use Rattle.machine.proofs.Laws.Bits.{overlay_below, overlay-byte, eqb-nibble}
use Rattle.state.proofs.Laws.Code.{code_long}

-- ---- padded
length-padded : (code : List ℕ) → length code ≤ 16 → length (padded code) ≡ 16
length-padded code h = simp (length-append, length-replicate) (omega arith)

zeros : (l : List ℕ) → ((k : ℕ) → k < length l → get_or l k 0 ≡ 0) → l ≡ replicate (length l) 0
zeros [] each = refl
zeros (x ∷ l) each = ap₂ ◌∷◌ (each zero (omega arith)) (zeros l (λ k h. each (suc k) (omega arith)))

-- ---- options_of
pub settings_options : (x : Settings) (b : Bool) → settings_of (options_of x b) x.version x.table ≡ x
settings_options x b =
    let a = x.mouse_lock in
    let m = x.at_mode in
    let c = x.second_set in
    λ i. record { mouse_lock = nibble_0 a m c b i; at_mode = nibble_1 a m c b i; second_set = nibble_2 a m c b i; version = x.version; table = x.table }

-- ---- behind the RAM
abbrev beyond : Public → List ℕ
beyond p = added p ++ given p.settings.version p.settings.table

-- byte 60 + k with what stands for nothing in it 0
abbrev pub tidied : ℕ → ℕ → ℕ
tidied zero x = options_of (settings_of x 0 []) (has x 3)
tidied (suc zero) x = x
tidied (suc (suc zero)) x = nibble (has x 0) (has x 1) false (has x 3)
tidied (suc (suc (suc zero))) x = nibble (has x 0) false false false
tidied (suc (suc (suc (suc k)))) x = x

tidied_beyond : (p : Public) (k : ℕ) → tidied k (get_or (beyond p) k 0) ≡ get_or (beyond p) k 0
tidied_beyond p zero = let x = p.settings in nibble-again x.mouse_lock x.at_mode x.second_set p.ports.high_allowed
tidied_beyond p (suc zero) = refl
tidied_beyond p (suc (suc zero)) = high_latches-again p.ports.p22 p.ports.p23 p.ports.p25
tidied_beyond p (suc (suc (suc zero))) = ap (λ (b : Bool). nibble b false false false) (nibble_0 p.errors.ttim false false false)
tidied_beyond p (suc (suc (suc (suc k)))) = refl

-- with sixty bytes in front
module _ (b : List ℕ) (long : length b ≡ 60) (p : Public) where
  length_extended : length p.settings.table ≡ 256 → length (b ++ beyond p) ≡ state_length
  length_extended whole = length-append b (beyond p) ∙ omega arith

  drop_extended : drop 60 (b ++ beyond p) ≡ beyond p
  drop_extended = drop_at b (beyond p) 60 long

  table_extended : drop 65 (b ++ beyond p) ≡ p.settings.table
  table_extended = sym (drop-drop 5 60 (b ++ beyond p)) ∙ ap (drop 5) drop_extended

  byte_extended : (k : ℕ) → at (b ++ beyond p) (60 + k) ≡ get_or (beyond p) k 0
  byte_extended k = sym (get_or-drop 60 (b ++ beyond p) k 0) ∙ ap (λ (l : List ℕ). get_or l k 0) drop_extended

  tidied_extended : (k : ℕ) → tidied k (at (b ++ beyond p) (60 + k)) ≡ at (b ++ beyond p) (60 + k)
  tidied_extended k = ap (tidied k) (byte_extended k) ∙ tidied_beyond p k ∙ sym (byte_extended k)

-- ---- the parts of a state
-- the bytes up to the RAM's end
abbrev sixty : Machine → List ℕ
sixty m = head m ++ padded m.secret.code ++ m.plain.ram

state_parts : (m : Machine) → state_of m ≡ sixty m ++ beyond m.plain
unfolding state_of body
state_parts m = append_assoc (sixty m) (added m.plain) _

module _ (m : Machine) (short : length m.secret.code ≤ 16) where
  abbrev code-bytes : List ℕ
  code-bytes = padded m.secret.code

  behind_head : drop 12 (state_of m) ≡ code-bytes ++ (m.plain.ram ++ beyond m.plain)
  behind_head = ap (drop 12) (state_parts m) ∙ append_assoc code-bytes m.plain.ram (beyond m.plain)

  pub code_part : take 16 (drop 12 (state_of m)) ≡ padded m.secret.code
  code_part =
      ap (take 16) behind_head ∙ take_at code-bytes (m.plain.ram ++ beyond m.plain) 16 (length-padded m.secret.code short)

  drop_28 : drop 28 (state_of m) ≡ m.plain.ram ++ beyond m.plain
  drop_28 =
      sym (drop-drop 16 12 (state_of m))
      ∙ ap (drop 16) behind_head
      ∙ drop_at code-bytes (m.plain.ram ++ beyond m.plain) 16 (length-padded m.secret.code short)

  module _ (cells : length m.plain.ram ≡ 32) where
    length-sixty : length (sixty m) ≡ 60
    length-sixty =
        omega (arith, length-append (head m ++ code-bytes) m.plain.ram, length-append (head m) code-bytes, length-padded m.secret.code short)

    pub length-body : length (body m) ≡ 64
    unfolding body
    length-body = omega (arith, length-append (sixty m) (added m.plain), length-sixty)

    length-state : length m.plain.settings.table ≡ 256 → length (state_of m) ≡ state_length
    length-state whole = ap length (state_parts m) ∙ length_extended (sixty m) length-sixty m.plain whole

    some-state : 60 ≤ length (state_of m)
    some-state = omega (arith, ap length (state_parts m), length-append (sixty m) (beyond m.plain), length-sixty)

    -- an image's body is the front of it
    take-body : take 64 (state_of m) ≡ body m
    unfolding state_of
    take-body = take_at (body m) _ 64 length-body

    table-part : drop 65 (state_of m) ≡ m.plain.settings.table
    table-part = ap (drop 65) (state_parts m) ∙ table_extended (sixty m) length-sixty m.plain

    pub byte-part : (k : ℕ) → at (state_of m) (60 + k) ≡ get_or (beyond m.plain) k 0
    byte-part k = ap (λ (l : List ℕ). at l (60 + k)) (state_parts m) ∙ byte_extended (sixty m) length-sixty m.plain k

    pub ram-part : at (state_of m) 28 ∷ take 31 (drop 29 (state_of m)) ≡ m.plain.ram
    ram-part =
        ap (take 32) (sym (drop-cons (state_of m) 28 0 (omega (arith, some-state))) ∙ drop_28) ∙ take_at m.plain.ram (beyond m.plain) 32 cells

    -- the machine of a machine's bytes is the machine
    pub view-state : view (state_of m) ≡ m
    unfolding state_of body
    view-state =
        let p = m.plain in
        let o = p.output in
        let h = p.host in
        let code : take (length m.secret.code) (take 16 (drop 12 (state_of m))) ≡ m.secret.code =
        ap (take (length m.secret.code)) code_part ∙ take-append_seam m.secret.code _ in
        let behind = byte-part in
        let q = p.ports in
        let x = p.settings in
        let settings : settings_of (at (state_of m) 60) (at (state_of m) 64) (drop 65 (state_of m)) ≡ x =
        (λ i. settings_of (behind 0 i) (behind 4 i) (table-part i)) ∙ settings_options x q.high_allowed in
        let allowed : has (at (state_of m) 60) 3 ≡ q.high_allowed =
        ap (λ (n : ℕ). has n 3) (behind 0) ∙ nibble_3 x.mouse_lock x.at_mode x.second_set q.high_allowed in
        let latch : (k : ℕ) → has (at (state_of m) 62) k ≡ has (high_latches p) k = λ k. ap (λ (x : ℕ). has x k) (behind 2) in
        let p22 : has (at (state_of m) 62) 0 ≡ q.p22 = latch 0 ∙ nibble_0 q.p22 q.p23 false q.p25 in
        let p23 : has (at (state_of m) 62) 1 ≡ q.p23 = latch 1 ∙ nibble_1 q.p22 q.p23 false q.p25 in
        let p25 : has (at (state_of m) 62) 3 ≡ q.p25 = latch 3 ∙ nibble_3 q.p22 q.p23 false q.p25 in
        let ttim : has (at (state_of m) 63) 0 ≡ p.errors.ttim = ap (λ (x : ℕ). has x 0) (behind 3) ∙ nibble_0 p.errors.ttim false false false in
        λ i. record {
          plain = record {
            output = record { byte = o.byte; full = flags_full p i; mouse = flags-mouse p i };
            errors = record { terr = flags-terr p i; perr = flags-perr p i; ttim = ttim i };
            host = record { command = flags-command p i; pending = h.pending; cell = h.cell; overlay = eqb-nibble h.overlay i; nibble = h.nibble };
            ports = record {
              pins = q.pins;
              p20 = nibble_0 q.p20 q.p21 false false i;
              p21 = nibble_1 q.p20 q.p21 false false i;
              p22 = p22 i;
              p23 = p23 i;
              p25 = p25 i;
              input_latches = behind 1 i;
              high_allowed = allowed i;
            };
            sending = p.sending;
            breaks = flags-breaks p i;
            locked = flags-locked p i;
            ram = ram-part i;
            settings = settings i;
          };
          secret = record { code = code i; position = m.secret.position };
        }

-- ---- the key table in its place
-- 256 bytes copied over the last of a state, as the copy gives its part back
pub table-put : (s t : List ℕ) {ys : List ℕ} → length s ≡ state_length → ys ≡ t →
    take 65 s ++ (ys ++ drop 256 (drop 65 s)) ≡ take 65 s ++ t
table-put s t {ys} long copied =
    let none : drop 256 (drop 65 s) ≡ [] = drop_of_length-le (drop 65 s) {i = 256} (simp length-drop (omega arith)) in
    ap₂ (λ (x y : List ℕ). take 65 s ++ (x ++ y)) copied none ∙ ap (λ (r : List ℕ). take 65 s ++ r) (append-nil t)

-- ---- fresh
-- the bytes that a start stores
abbrev pub stored : ℕ → ℕ → List ℕ
stored options version = set (set (set (set (set (set (set (replicate 321 0) 2 0xFF) 3 3) 28 0x70) 60 options) 61 0x3F) 62 3) 64 version

abbrev pub started : ℕ → ℕ → List ℕ → List ℕ
started options version table = take 65 (stored options version) ++ table

started-state : (x : Settings) → started (options_of x false) x.version x.table ≡ state_of (fresh x)
unfolding state_of body fresh nibble
started-state x = refl

pub fresh-started : (x : Settings) {options : ℕ} {ys : List ℕ} → options ≡ options_of x false → ys ≡ x.table →
    let s = put_mid 65 256 (stored options x.version) ys in (s ≡ state_of (fresh x)) × (view s ≡ fresh x)
unfolding fresh
fresh-started x {options} same copied =
    let bytes = table-put (stored options x.version) x.table refl copied ∙ ap (λ (n : ℕ). started n x.version x.table) same ∙ started-state x in
    (bytes, ap view bytes ∙ view-state (fresh x) (omega arith) refl)

-- ---- what stands for nothing is 0
pub record Tidy (s : List ℕ) : Type 0 where
  pub long : length s ≡ state_length
  pub flags : at s 1 < 128
  pub latches : at s 3 < 4
  pub overlay : at s 6 < 2
  pub size : at s 10 < 17
  pub rest : (k : ℕ) → at s 10 ≤ k → k < 16 → at s (12 + k) ≡ 0
  pub beyond : (k : ℕ) → tidied k (at s (60 + k)) ≡ at s (60 + k)

-- such bytes are those of their machine
module _ (s : List ℕ) (t : Tidy s) where
  abbrev long : length s ≡ state_length
  long = t.long

  abbrev code : List ℕ
  code = take 16 (drop 12 s)

  size_shown : length (take (at s 10) code) ≡ at s 10
  size_shown = length-take (at s 10) code ∙ omega (arith, code_long s long, t.size)

  head-view : head (view s) ≡ take 12 s
  head-view = path ∙ sym (take_listed 0 12 s (omega arith))
    where
      path : head (view s) ≡ listed 0 12 s
      path = λ i.
          at s 0
          ∷ flags-byte (at s 1) t.flags i
          ∷ at s 2
          ∷ latches-byte (at s 3) t.latches i
          ∷ at s 4
          ∷ at s 5
          ∷ overlay-byte (at s 6) (omega (arith, t.overlay)) i
          ∷ at s 7
          ∷ at s 8
          ∷ at s 9
          ∷ size_shown i
          ∷ at s 11
          ∷ []

  rest_zero : drop (at s 10) code ≡ replicate (length (drop (at s 10) code)) 0
  rest_zero = zeros (drop (at s 10) code) each
    where
      each : (k : ℕ) → k < length (drop (at s 10) code) → get_or (drop (at s 10) code) k 0 ≡ 0
      each k h =
          let below : at s 10 + k < 16 = omega (arith, h, length-drop (at s 10) code, code_long s long) in
          get_or-drop (at s 10) code k 0 ∙ get_or-take 16 (drop 12 s) (at s 10 + k) 0 below ∙ get_or-drop 12 s (at s 10 + k) 0
          ∙ t.rest (at s 10 + k) (omega arith) below

  padded-view : padded (take (at s 10) code) ≡ code
  padded-view =
      let left : 16 - length (take (at s 10) code) ≡ length (drop (at s 10) code) =
      omega (arith, size_shown, length-drop (at s 10) code, code_long s long) in
      ap (λ (k : ℕ). take (at s 10) code ++ replicate k 0) left
      ∙ ap (λ (l : List ℕ). take (at s 10) code ++ l) (sym rest_zero)
      ∙ take-append-drop (at s 10) code

  sixty_view : sixty (view s) ≡ take 60 s
  sixty_view =
      let cells : at s 28 ∷ take 31 (drop 29 s) ≡ take 32 (drop 28 s) = ap (take 32) (sym (drop-cons s 28 0 (omega arith))) in
      ap₂ (λ (x y : List ℕ). x ++ y ++ (at s 28 ∷ take 31 (drop 29 s))) head-view padded-view
      ∙ ap (λ (x : List ℕ). (take 12 s ++ code) ++ x) cells
      ∙ ap (λ (x : List ℕ). x ++ take 32 (drop 28 s)) (sym (take-add 12 16 s))
      ∙ sym (take-add 28 32 s)

  beyond-view : beyond (view s).plain ≡ listed 60 5 s ++ drop 65 s
  beyond-view = λ i. t.beyond 0 i ∷ at s 61 ∷ t.beyond 2 i ∷ t.beyond 3 i ∷ at s 64 ∷ drop 65 s

  pub tidy_state : IsState s
  tidy_state =
      sym
      (state_parts (view s)
      ∙ ap₂ (λ (x y : List ℕ). x ++ y) sixty_view beyond-view
      ∙ ap₂ (λ (x y : List ℕ). take 60 s ++ (x ++ y)) (sym (take_listed 60 5 s (omega arith))) (sym (drop-drop 5 60 s))
      ∙ ap (λ (x : List ℕ). take 60 s ++ x) (take-append-drop 5 (drop 60 s))
      ∙ take-append-drop 60 s)

-- and the other way round
module _ (s : List ℕ) (long : length s ≡ state_length) where
  short : length (view s).secret.code ≤ 16
  short = omega (arith, length-take (at s 10) (take 16 (drop 12 s)), code_long s long)

  cells : length (view s).plain.ram ≡ 32
  cells = ap suc (length_part 29 31 s (omega arith))

  view_tidy : Tidy (state_of (view s))
  unfolding state_of body
  view_tidy =
      let m = view s in
      let c = m.secret.code in
      record {
        long = length-state m short cells (length-drop 65 s ∙ omega arith);
        flags = flags_below m.plain;
        latches = latches_below m.plain.ports.p20 m.plain.ports.p21;
        overlay = omega (arith, overlay_below m.plain.host.overlay);
        size = omega (arith, short);
        rest = λ k low high.
            let past : length c + (k - length c) ≡ k = omega (arith, low) in
            sym (get_or-drop 12 (state_of m) k 0) ∙ sym (get_or-take 16 (drop 12 (state_of m)) k 0 high)
            ∙ ap (λ (l : List ℕ). get_or l k 0) (code_part m short)
            ∙ ap (λ (j : ℕ). get_or (padded c) j 0) (sym past)
            ∙ sym (get_or-drop (length c) (padded c) (k - length c) 0)
            ∙ ap (λ (l : List ℕ). get_or l (k - length c) 0) (drop-append_seam c _)
            ∙ get_or_zeros (16 - length c) (k - length c);
        beyond = λ k.
            subst (λ (l : List ℕ). tidied k (at l (60 + k)) ≡ at l (60 + k)) (sym (state_parts m))
            (tidied_extended (sixty m) (length-sixty m short cells) m.plain k);
      }

  pub state_tidy : IsState s → Tidy s
  state_tidy e = subst Tidy (sym e) view_tidy

  -- an image's body is the front of the bytes
  pub body_front : IsState s → take 64 s ≡ body (view s)
  body_front e = ap (take 64) e ∙ take-body (view s) short cells
