-- The ranges of the numbers that records hold and that their fields tell (EPICS record reference).
use Rattle.std.specs.Prelude.{ℕ, ℤ, pos, negsuc}

-- the least number and the greatest
abbrev pub Range : Type 0
Range = ℤ × ℤ

-- the types of numbers
abbrev pub int8 : Range
int8 = (negsuc 127, pos 127)

abbrev pub uint8 : Range
uint8 = (pos 0, pos 255)

abbrev pub int16 : Range
int16 = (negsuc 32767, pos 32767)

abbrev pub uint16 : Range
uint16 = (pos 0, pos 65535)

abbrev pub int32 : Range
int32 = (negsuc 2147483647, pos 2147483647)

abbrev pub uint32 : Range
uint32 = (pos 0, pos 4294967295)

abbrev pub int64 : Range
int64 = (negsuc 9223372036854775807, pos 9223372036854775807)

abbrev pub uint64 : Range
uint64 = (pos 0, pos 18446744073709551615)

-- DISP, and the index of one of two choices
abbrev pub flag : Range
flag = (pos 0, pos 1)

-- how many elements a list may have
abbrev pub element_count : Range
element_count = (pos 1, pos 16384)

-- how many bytes the text of a record has at most
abbrev pub text_bytes : ℕ
text_bytes = 39

-- how many bytes the description of a record has at most
abbrev pub desc_bytes : ℕ
desc_bytes = 40

-- how many choices a record has at most
abbrev pub most_choices : ℕ
most_choices = 16
