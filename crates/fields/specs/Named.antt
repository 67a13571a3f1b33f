-- Named values: how each is written, and which one bytes are.
-- Assumes nothing.
use Rattle.std.specs.Prelude.{ℕ, Bool, true, false, List, [], ◌∷◌, eqb}
use Rattle.common.specs.Tests.{every, some, pick}
use Rattle.layout.specs.declared.InterleaveMode.{InterleaveMode}
use Rattle.layout.specs.declared.InterleaveMode.TheVariants.{B, P, R, S}
use Rattle.fields.specs.declared.named.PixelValueType.{PixelValueType}
use Rattle.fields.specs.declared.named.PixelValueType.TheVariants.{UnsignedInt, SignedInt, Real}
use Rattle.fields.specs.declared.named.PixelValueType.TheVariants.{Complex, BiLevel}
use Rattle.fields.specs.declared.named.PixelJustification.{PixelJustification}
use Rattle.fields.specs.declared.named.PixelJustification.TheVariants.{Right, Left}
use Rattle.fields.specs.declared.named.ImageCompression.{ImageCompression}
use Rattle.fields.specs.declared.named.ImageCompression.TheVariants.{NC, NM}

-- are two lists the same bytes
unfoldable pub same_bytes : List ℕ → List ℕ → Bool
same_bytes [] [] = true
same_bytes [] (y ∷ ys) = false
same_bytes (x ∷ xs) [] = false
same_bytes (x ∷ xs) (y ∷ ys) = every (eqb x y ∷ same_bytes xs ys ∷ [])

-- is one of the values written as these bytes
unfoldable pub is_named : {A : Type 0} → (A → List ℕ) → List A → List ℕ → Bool
is_named written [] bytes = false
is_named written (v ∷ vs) bytes = some (same_bytes bytes (written v) ∷ is_named written vs bytes ∷ [])

-- the value that is written as these bytes; `other` where none is
unfoldable pub value_of : {A : Type 0} → (A → List ℕ) → List A → A → List ℕ → A
value_of written [] other bytes = other
value_of written (v ∷ vs) other bytes = pick (same_bytes bytes (written v)) v (value_of written vs other bytes)

-- ---- PVTYPE: INT, and SI, R, C and B padded with spaces

abbrev pub pvtypes : List PixelValueType
pvtypes = UnsignedInt ∷ SignedInt ∷ Real ∷ Complex ∷ BiLevel ∷ []

abbrev pub pvtype_text : PixelValueType → List ℕ
pvtype_text UnsignedInt = 0x49 ∷ 0x4E ∷ 0x54 ∷ []
pvtype_text SignedInt = 0x53 ∷ 0x49 ∷ 0x20 ∷ []
pvtype_text Real = 0x52 ∷ 0x20 ∷ 0x20 ∷ []
pvtype_text Complex = 0x43 ∷ 0x20 ∷ 0x20 ∷ []
pvtype_text BiLevel = 0x42 ∷ 0x20 ∷ 0x20 ∷ []

-- ---- PJUST: R or L

abbrev pub pjusts : List PixelJustification
pjusts = Right ∷ Left ∷ []

abbrev pub pjust_text : PixelJustification → List ℕ
pjust_text Right = 0x52 ∷ []
pjust_text Left = 0x4C ∷ []

-- ---- IC: NC or NM

abbrev pub ics : List ImageCompression
ics = NC ∷ NM ∷ []

abbrev pub ic_text : ImageCompression → List ℕ
ic_text NC = 0x4E ∷ 0x43 ∷ []
ic_text NM = 0x4E ∷ 0x4D ∷ []

-- ---- IMODE: B, P, R or S

abbrev pub imodes : List InterleaveMode
imodes = B ∷ P ∷ R ∷ S ∷ []

abbrev pub imode_text : InterleaveMode → List ℕ
imode_text B = 0x42 ∷ []
imode_text P = 0x50 ∷ []
imode_text R = 0x52 ∷ []
imode_text S = 0x53 ∷ []
