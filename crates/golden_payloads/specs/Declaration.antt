-- A declaration for customs.
use Rattle.std.specs.Prelude.{◌^◌, codes}
use Rattle.std.proofs.Common.{refl}
use Rattle.json_payloads.specs.Base64.{base64}
use Rattle.json_payloads.specs.Forms.{Form, text, truth}
use Rattle.json_payloads.specs.Lists.{list}
use Rattle.json_payloads.specs.Moments.{date_time}
use Rattle.json_payloads.specs.Numbers.{whole_number, number_under}
use Rattle.json_payloads.specs.Objects.{required, optional, ◌⊗◌, done, object_form}
use Rattle.golden_payloads.specs.Model.{address}
use Rattle.golden_payloads.specs.declared.declaration.Declaration.{Declaration}

-- a declaration
abbrev pub declaration : Form Declaration
declaration = object_form
    (required (codes "number") text
    ⊗ required (codes "exporter") text
    ⊗ optional (codes "exporterAddress") address
    ⊗ required (codes "importer") text
    ⊗ optional (codes "importerAddress") address
    ⊗ required (codes "contents") (list text)
    ⊗ required (codes "weightGrams") whole_number
    ⊗ required (codes "lengthMillimeters") (number_under (2 ^ 32))
    ⊗ required (codes "widthMillimeters") (number_under (2 ^ 32))
    ⊗ required (codes "heightMillimeters") (number_under (2 ^ 32))
    ⊗ required (codes "valueCents") whole_number
    ⊗ required (codes "currency") text
    ⊗ required (codes "origin") text
    ⊗ required (codes "destination") text
    ⊗ required (codes "transit") (list text)
    ⊗ optional (codes "tariff") text
    ⊗ optional (codes "dutyCents") whole_number
    ⊗ optional (codes "taxCents") whole_number
    ⊗ optional (codes "insuredCents") whole_number
    ⊗ required (codes "commercial") truth
    ⊗ required (codes "returned") truth
    ⊗ required (codes "dangerous") truth
    ⊗ required (codes "perishable") truth
    ⊗ optional (codes "invoice") text
    ⊗ optional (codes "invoiceImage") base64
    ⊗ optional (codes "license") text
    ⊗ optional (codes "certificate") base64
    ⊗ required (codes "signedBy") text
    ⊗ required (codes "signed") date_time
    ⊗ optional (codes "remarks") (list text)
    ⊗ done)
    refl
    (λ d. (d.number, (d.exporter, (d.exporter_address, (d.importer, (d.importer_address, (d.contents, (d.weight_grams, (d.length_millimeters, (d.width_millimeters, (d.height_millimeters, (d.value_cents, (d.currency, (d.origin, (d.destination, (d.transit, (d.tariff, (d.duty_cents, (d.tax_cents, (d.insured_cents, (d.commercial, (d.returned, (d.dangerous, (d.perishable, (d.invoice, (d.invoice_image, (d.license, (d.certificate, (d.signed_by, (d.signed, (d.remarks, tt)))))))))))))))))))))))))))))))
    (λ (number, (exporter, (exporter_address, (importer, (importer_address, (contents, (weight_grams, (length_millimeters, (width_millimeters, (height_millimeters, (value_cents, (currency, (origin, (destination, (transit, (tariff, (duty_cents, (tax_cents, (insured_cents, (commercial, (returned, (dangerous, (perishable, (invoice, (invoice_image, (license, (certificate, (signed_by, (signed, (remarks, _)))))))))))))))))))))))))))))). record { number = number; exporter = exporter; exporter_address = exporter_address; importer = importer; importer_address = importer_address; contents = contents; weight_grams = weight_grams; length_millimeters = length_millimeters; width_millimeters = width_millimeters; height_millimeters = height_millimeters; value_cents = value_cents; currency = currency; origin = origin; destination = destination; transit = transit; tariff = tariff; duty_cents = duty_cents; tax_cents = tax_cents; insured_cents = insured_cents; commercial = commercial; returned = returned; dangerous = dangerous; perishable = perishable; invoice = invoice; invoice_image = invoice_image; license = license; certificate = certificate; signed_by = signed_by; signed = signed; remarks = remarks })
    (λ d. refl)
