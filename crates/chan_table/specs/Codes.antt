-- How an ask is stored as plain data.
use Rattle.std.specs.Prelude.{◌≡◌, ℕ, zero, suc, Bool, Option, refl}
use Rattle.std.specs.Coded.{Coded, code_by, coded×, coded_ℕ, coded_bool, coded_option}
use Rattle.std.specs.Ordering.{nat_cmp}
use Rattle.std.specs.FinSet as set
use Rattle.chan_table.specs.declared.ask.Ask.{Ask}
use Rattle.chan_table.specs.declared.ask.AskKind.{AskKind}
use Rattle.chan_table.specs.declared.ask.AskKind.TheVariants.{Get, Put, PutGet, Rpc, Monitor}

-- a kind by its number, from 0 on
abbrev pub number_of_kind : AskKind → ℕ
number_of_kind Get = 0
number_of_kind Put = 1
number_of_kind PutGet = 2
number_of_kind Rpc = 3
number_of_kind Monitor = 4

abbrev pub kind_of_number : ℕ → AskKind
kind_of_number zero = Get
kind_of_number (suc zero) = Put
kind_of_number (suc (suc zero)) = PutGet
kind_of_number (suc (suc (suc zero))) = Rpc
kind_of_number (suc (suc (suc (suc n)))) = Monitor

pub kind_of_number-number_of_kind : (kind : AskKind) → kind_of_number (number_of_kind kind) ≡ kind
kind_of_number-number_of_kind Get = refl
kind_of_number-number_of_kind Put = refl
kind_of_number-number_of_kind PutGet = refl
kind_of_number-number_of_kind Rpc = refl
kind_of_number-number_of_kind Monitor = refl

abbrev pub kind_code : Coded AskKind
kind_code = code_by ℕ coded_ℕ number_of_kind kind_of_number kind_of_number-number_of_kind

-- an ask is stored as the tuple of its fields
abbrev pub ask_code : {S : Type 0} → Coded S → Coded (Ask S)
ask_code {S} code =
    code_by
    (ℕ × (AskKind × (set.FinSet nat_cmp × (Option Bool × (Option S × (Option ℕ × Bool))))))
    (coded× coded_ℕ (coded× kind_code (coded× (set.code coded_ℕ) (coded× (coded_option coded_bool)
    (coded× (coded_option code) (coded× (coded_option coded_ℕ) coded_bool))))))
    (λ a. (a.sid, (a.kind, (a.mask, (a.atomic, (a.sub, (a.window, a.started)))))))
    (λ p. record {
      sid = p.0;
      kind = p.1.0;
      mask = p.1.1.0;
      atomic = p.1.1.1.0;
      sub = p.1.1.1.1.0;
      window = p.1.1.1.1.1.0;
      started = p.1.1.1.1.1.1;
    })
    (λ _. refl)
